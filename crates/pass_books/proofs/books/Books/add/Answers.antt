use Rattle.std.proofs.Common.{◌∷◌, slice_set, ap, ◌∙◌, refl}
use Rattle.std.proofs.lemmas.List.{map-set}
use Rattle.std.proofs.Math.Seq.{map-set_same}
use Rattle.pass_books.proofs.books.Books.add.Goals as goal

-- a book keeps its name
pub invariant_of-self : goal.invariant_of-self
invariant_of-self g c =
    map-set_same (λ a. a.name) c.self.inside.books.items c.number-number.result c.add.new.self c.index_mut.result.now
    (ap (λ a. a.name) c.add.ensures.book ∙ ap (λ a. a.name) c.index_mut.ensures.value) ∙ c.self.invariant

-- its entries are those of the pass, with one more, and its moments are as before
pub returns-clause-books : goal.returns-clause-books
returns-clause-books g c =
    let n = c.number-number.result in
    let old = c.args.self.now in
    let more = ap (λ es. c.args.entry ∷ es) (c.add.ensures.same ∙ ap (λ p. p.entries) c.pass.view_is) in
    let entries =
    map-set (λ a. a.entries) c.self.inside.books.items n c.add.new.self
    ∙ ap (λ b. slice_set b.entries n c.add.new.self.entries) c.self.view_is
    ∙ ap (λ k. slice_set old.entries k c.add.new.self.entries) c.number-number.ensures
    ∙ ap (λ es. slice_set old.entries c.args.pass.now.number es) (ap (λ a. a.entries) c.add.ensures.book ∙ more) in
    let moments =
    map-set_same (λ a. a.moments) c.self.inside.books.items n c.add.new.self c.index_mut.result.now
    (ap (λ a. a.moments) c.add.ensures.book ∙ ap (λ a. a.moments) c.index_mut.ensures.value)
    ∙ ap (λ b. b.moments) c.self.view_is in
    rw (entries, moments) refl
