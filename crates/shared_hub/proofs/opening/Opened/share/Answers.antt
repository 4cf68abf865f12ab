use Rattle.std.proofs.Common.{◌≡◌, [], Some, ap, arith, get_or, length, remove, slice_get, sym, vec_len, ◌∙◌}
use Rattle.std.proofs.lemmas.List.{length-map}
use Rattle.std.specs.Global.{Vec}
use Rattle.hub_parts.specs.Locked.{LockedHeld}
use Rattle.pass_books.specs.Accounts.{Account, books_of, names_of}
use Rattle.shared_hub.proofs.OpeningLemmas.{first_new, fresh_books}
use Rattle.shared_hub.specs.Books.{new_passes}
use Rattle.shared_hub.proofs.opening.Opened.share.Goals as goal

counted : {A : Type 0} (v : Vec A) → vec_len v ≡ length v.items
counted v = grind arith

-- nothing is entered but this moment, in the flusher's book, and no step was made
pub new-requires : goal.new-requires
new-requires g c =
    let names : length (names_of c.self.inside.books.items) ≡ length g.J.BookNames.names = ap length (c.self.view_is ∙ c.requires.names) in
    let books : length c.self.inside.books.items ≡ 49 = sym (counted c.self.inside.books) ∙ c.self.invariant.0 in
    let count : length g.J.BookNames.names ≡ 49 = sym names ∙ length-map c.self.inside.books.items (λ (a : Account LockedHeld). a.name) ∙ books in
    let all = c.in-Ok.ensures ∙ ap new_passes count in
    let own : c.remove-own.result ≡ record { number = 0; entries = []; moments = [] } =
    c.remove-own.ensures.value ∙ ap (λ passes. get_or passes 0 c.remove-own.result) all ∙ first_new 48 c.remove-own.result in
    let there : slice_get (books_of c.self.inside.books.items).moments 0 ≡ Some [] = rw (own, c.of-books.ensures) at c.audit.ensures.moments in
    rw (c.enter.ensures.books, c.audit.ensures.books, c.audit.ensures.pass, own, c.of-books.ensures)
    (fresh_books c.args.parts.locked c.self.inside.books.items (ap (λ l. l.replica.steps) c.requires.opened.locked) c.kept.ensures
    c.self.invariant.2 there)

-- the passes are all but the one with number 0
pub returns-clause-passes : goal.returns-clause-passes
returns-clause-passes g c =
    let names : length (names_of c.self.inside.books.items) ≡ length g.J.BookNames.names = ap length (c.self.view_is ∙ c.requires.names) in
    let books : length c.self.inside.books.items ≡ 49 = sym (counted c.self.inside.books) ∙ c.self.invariant.0 in
    let count : length g.J.BookNames.names ≡ 49 = sym names ∙ length-map c.self.inside.books.items (λ (a : Account LockedHeld). a.name) ∙ books in
    c.remove-own.ensures.items ∙ ap (λ passes. remove passes 0) (c.in-Ok.ensures ∙ ap new_passes count)
