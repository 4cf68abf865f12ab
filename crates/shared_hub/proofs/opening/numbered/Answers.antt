use Rattle.std.proofs.Common.{◌<◌, ◌∷◌, All, vec_len, length, ap, refl, sym, ◌∙◌, arith}
use Rattle.std.proofs.lemmas.Option.{slice_get_within}
use Rattle.pass_books.specs.Accounts.{names_of}
use Rattle.shared_hub.specs.Books.{IsFresh}
use Rattle.shared_hub.proofs.OpeningLemmas.{next_of, all_behind, one_more}
use Rattle.shared_hub.proofs.opening.numbered.Goals as goal

-- the next share has the name behind those of the passes
pub of-requires : goal.of-requires
of-requires g c =
    let behind = c.next.new.self.rest.items in
    let is = sym c.loop-share.invariant.0 ∙ ap names_of c.in-Some.ensures.steps.0 in
    rw c.len.ensures ((next_of g.J.BookNames.names (vec_len c.loop-share.passes) c.in-Some.share.name (names_of behind) is).0)

pub loop-share-preserved : goal.loop-share-preserved
loop-share-preserved g c =
    let behind = c.next.new.self.rest.items in
    let share = c.in-Some.share in
    let is = sym c.loop-share.invariant.0 ∙ ap names_of c.in-Some.ensures.steps.0 in
    let left : All IsFresh (share ∷ behind) = rw c.in-Some.ensures.steps.0 at c.loop-share.invariant.1 in
    let both = all_behind IsFresh share behind left in
    let next = next_of g.J.BookNames.names (vec_len c.loop-share.passes) share.name (names_of behind) is in
    let within : vec_len c.loop-share.passes < length g.J.BookNames.names = slice_get_within _ _ _ next.0 in (
      rw c.in_ok-push.ensures.len (sym next.1),
      both.1,
      rw (c.in_ok-push.ensures.items, c.in_ok-push.ensures.len) (one_more c.loop-share.passes.items c.of.result (vec_len c.loop-share.passes) c.loop-share.invariant.2
          (rw (c.of.ensures, c.len.ensures, both.0.entries, both.0.moments) refl)),
      rw c.in_ok-push.ensures.len (omega (arith, within)),
    )
