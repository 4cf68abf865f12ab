-- What an edit of a session is read as: a change that is asked for alone, or several in a list.
use Rattle.std.specs.Prelude.{ℕ, ◌&&◌, nat_le, if◌then◌else◌, List, [], ◌∷◌, ◌++◌, length, None, option_and_then, Result, Ok, Err, codes}
use Rattle.serde_json.specs.Data.{Data, Items, no_items, item}
use Rattle.serde_json.specs.Find.{get, as_array}
use Rattle.fixed_numbers.specs.declared.limits.TheConstants.{MAX_CHANGES}
use Rattle.op_model.specs.Actions.{asked}
use Rattle.op_model.specs.declared.edit.Change.{Change}
use Rattle.op_model.specs.declared.edit.Change.TheVariants as change
use Rattle.op_model.specs.declared.mark.Mark.{Mark}
use Rattle.op_model.specs.declared.mark.Mark.TheVariants as added
use Rattle.op_model.specs.declared.mark.MarkKey.{MarkKey}
use Rattle.op_model.specs.declared.mark.MarkKey.TheVariants as key
use Rattle.placed_edits.specs.declared.spots.PlacedChange.{PlacedChange}
use Rattle.placed_edits.specs.declared.spots.Spots.{Spots}
use Rattle.session_lines.specs.declared.command.Command.{Command}
use Rattle.session_lines.specs.declared.command.Command.TheVariants as command
use Rattle.session_lines.specs.declared.refusal.Refusal.{Refusal}
use Rattle.session_lines.specs.declared.refusal.Refusal.TheVariants.{Field}
use Rattle.session_lines.specs.declared.verb.Verb.{Verb}
use Rattle.session_lines.specs.declared.verb.Verb.TheVariants as verb
use Rattle.session_lines.specs.declared.kind.Kind.{Kind}
use Rattle.session_lines.specs.declared.kind.Kind.TheVariants as kind
use Rattle.session_lines.specs.Fields.{◌>>=◌, or_field, verb_named, text_at, only, whole, rev_of, token_of, count_of, characters_of, kind_of}
use Rattle.session_lines.specs.Fields.{url_of, comment_of}
use Rattle.session_lines.specs.Spots.{spot_at}

-- the fields that a change has besides its own, where it is asked for alone
abbrev pub alone : List (List ℕ)
alone = codes "op" ∷ codes "doc" ∷ codes "rev" ∷ codes "token" ∷ []

-- the field that one of several changes has besides its own
abbrev pub in_list : List (List ℕ)
in_list = codes "op" ∷ []

-- the fields of a mark or an unmark, with these besides
abbrev pub mark_fields : List (List ℕ) → List (List ℕ)
mark_fields more = codes "from" ∷ codes "to" ∷ codes "kind" ∷ more

-- the change of an insert, with these fields besides its own
abbrev pub insert_of : List (List ℕ) → Data → Result PlacedChange Refusal
insert_of outer d =
    only (outer ++ codes "at" ∷ codes "text" ∷ []) d >>= λ _.
    spot_at (codes "at") d >>= λ at.
    characters_of d >>= λ text.
    Ok (record { change = change.Insert at.number text; spots = record { from = at.place; to = None } })

-- the change of a delete, with these fields besides its own
abbrev pub delete_of : List (List ℕ) → Data → Result PlacedChange Refusal
delete_of outer d =
    only (outer ++ codes "at" ∷ codes "count" ∷ []) d >>= λ _.
    spot_at (codes "at") d >>= λ at.
    count_of d >>= λ count.
    Ok (record { change = change.Delete at.number count; spots = record { from = at.place; to = None } })

-- the mark of this kind: a URL comes with a link alone, an id with a comment alone
abbrev pub mark_of_kind : Kind → List (List ℕ) → Data → Result Mark Refusal
mark_of_kind kind.Strong outer d = only (outer ++ mark_fields []) d >>= λ _. Ok added.Strong
mark_of_kind kind.Em outer d = only (outer ++ mark_fields []) d >>= λ _. Ok added.Em
mark_of_kind kind.Link outer d =
    only (outer ++ mark_fields (codes "url" ∷ [])) d >>= λ _. url_of d >>= λ url. Ok (added.Link url)
mark_of_kind kind.Comment outer d =
    only (outer ++ mark_fields (codes "id" ∷ [])) d >>= λ _. comment_of d >>= λ id. Ok (added.Comment id)

-- the mark that is put on
abbrev pub mark_of : List (List ℕ) → Data → Result Mark Refusal
mark_of outer d = kind_of d >>= λ kind. mark_of_kind kind outer d

-- the key of this kind: an id comes with a comment alone
abbrev pub key_of_kind : Kind → List (List ℕ) → Data → Result MarkKey Refusal
key_of_kind kind.Strong outer d = only (outer ++ mark_fields []) d >>= λ _. Ok key.Strong
key_of_kind kind.Em outer d = only (outer ++ mark_fields []) d >>= λ _. Ok key.Em
key_of_kind kind.Link outer d = only (outer ++ mark_fields []) d >>= λ _. Ok key.Link
key_of_kind kind.Comment outer d =
    only (outer ++ mark_fields (codes "id" ∷ [])) d >>= λ _. comment_of d >>= λ id. Ok (key.Comment id)

-- what is taken off
abbrev pub key_of : List (List ℕ) → Data → Result MarkKey Refusal
key_of outer d = kind_of d >>= λ kind. key_of_kind kind outer d

-- the change of a mark, with these fields besides its own
abbrev pub mark_change : List (List ℕ) → Data → Result PlacedChange Refusal
mark_change outer d =
    mark_of outer d >>= λ mark.
    spot_at (codes "from") d >>= λ from.
    spot_at (codes "to") d >>= λ to.
    Ok (record { change = change.Mark from.number to.number mark; spots = record { from = from.place; to = to.place } })

-- the change of an unmark, with these fields besides its own
abbrev pub unmark_change : List (List ℕ) → Data → Result PlacedChange Refusal
unmark_change outer d =
    key_of outer d >>= λ key.
    spot_at (codes "from") d >>= λ from.
    spot_at (codes "to") d >>= λ to.
    Ok (record { change = change.Unmark from.number to.number key; spots = record { from = from.place; to = to.place } })

-- the change that a request makes, with these fields besides its own: four requests make one
abbrev pub change_of : Verb → List (List ℕ) → Data → Result PlacedChange Refusal
change_of verb.Insert outer d = insert_of outer d
change_of verb.Delete outer d = delete_of outer d
change_of verb.Mark outer d = mark_change outer d
change_of verb.Unmark outer d = unmark_change outer d
change_of verb.Edits outer d = Err Field
change_of verb.Text outer d = Err Field
change_of verb.Spans outer d = Err Field
change_of verb.Versions outer d = Err Field
change_of verb.Changes outer d = Err Field
change_of verb.Anchors outer d = Err Field
change_of verb.Places outer d = Err Field
change_of verb.Status outer d = Err Field
change_of verb.Find outer d = Err Field
change_of verb.Export outer d = Err Field
change_of verb.Peers outer d = Err Field
change_of verb.Documents outer d = Err Field
change_of verb.Room outer d = Err Field
change_of verb.Stop outer d = Err Field

-- the edit with this change, at these places
abbrev pub edit_with : PlacedChange → Data → Result Command Refusal
edit_with change d =
    whole (codes "doc") 1 d >>= λ doc.
    rev_of d >>= λ rev.
    token_of d >>= λ token.
    Ok (command.Edit (record {
      asked = asked (record { doc = doc; rev = rev; token = token; change = change.change }) [];
      spots = change.spots ∷ [];
    }))

-- the request for a change alone
abbrev pub edit_asked : Verb → Data → Result Command Refusal
edit_asked verb d = change_of verb alone d >>= λ change. edit_with change d

-- one of several changes: an object that names none of the four requests breaks the rule of the list
abbrev pub listed_change : Data → Result PlacedChange Refusal
listed_change d = or_field (option_and_then verb_named (text_at (codes "op") d)) >>= λ verb. change_of verb in_list d

-- several changes, in order, and their places
pub record Listed : Type 0 where
  pub changes : List Change
  pub spots : List Spots

-- the changes of several items
abbrev pub listed_changes : Items → Result Listed Refusal
listed_changes no_items = Ok (record { changes = []; spots = [] })
listed_changes (item d ds) =
    listed_change d >>= λ c. listed_changes ds >>= λ cs. Ok (record { changes = c.change ∷ cs.changes; spots = c.spots ∷ cs.spots })

-- 1 to 1,024 of them
abbrev pub some_changes : Listed → Result Listed Refusal
some_changes cs = if nat_le 1 (length cs.changes) && nat_le (length cs.changes) MAX_CHANGES then Ok cs else Err Field

-- the field that lists changes
abbrev pub changes_of : Data → Result Listed Refusal
changes_of d =
    or_field (option_and_then as_array (get (codes "edits") d)) >>= λ items. listed_changes items >>= λ cs. some_changes cs

-- the request for several changes at once, all of one document
abbrev pub edits_asked : Data → Result Command Refusal
edits_asked d =
    only (codes "op" ∷ codes "doc" ∷ codes "rev" ∷ codes "token" ∷ codes "edits" ∷ []) d >>= λ _.
    whole (codes "doc") 1 d >>= λ doc.
    rev_of d >>= λ rev.
    token_of d >>= λ token.
    changes_of d >>= λ cs.
    Ok (command.Edit (record { asked = record { doc = doc; rev = rev; token = token; changes = cs.changes }; spots = cs.spots }))
