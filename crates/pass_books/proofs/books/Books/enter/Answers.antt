use Rattle.std.proofs.Common.{◌∷◌, slice_set, ap, ◌∙◌, refl}
use Rattle.std.proofs.lemmas.List.{map-set}
use Rattle.std.proofs.Math.Seq.{map-set_same}
use Rattle.pass_books.proofs.books.Books.enter.Goals as goal

-- a book keeps its name
pub invariant_of-self : goal.invariant_of-self
invariant_of-self g c =
    map-set_same (λ a. a.name) c.self.inside.books.items c.number-number.result c.enter.new.self c.index_mut.result.now
    (ap (λ a. a.name) c.enter.ensures.book ∙ ap (λ a. a.name) c.index_mut.ensures.value) ∙ c.self.invariant

-- its moments are those of the pass, with one more, and its entries are as before
pub returns-clause-books : goal.returns-clause-books
returns-clause-books g c =
    let n = c.number-number.result in
    let old = c.args.self.now in
    let more = ap (λ ms. c.args.value.now ∷ ms) (c.enter.ensures.same ∙ ap (λ p. p.moments) c.pass.view_is) in
    let moments =
    map-set (λ a. a.moments) c.self.inside.books.items n c.enter.new.self
    ∙ ap (λ b. slice_set b.moments n c.enter.new.self.moments) c.self.view_is
    ∙ ap (λ k. slice_set old.moments k c.enter.new.self.moments) c.number-number.ensures
    ∙ ap (λ ms. slice_set old.moments c.args.pass.now.number ms) (ap (λ a. a.moments) c.enter.ensures.book ∙ more) in
    let entries =
    map-set_same (λ a. a.entries) c.self.inside.books.items n c.enter.new.self c.index_mut.result.now
    (ap (λ a. a.entries) c.enter.ensures.book ∙ ap (λ a. a.entries) c.index_mut.ensures.value)
    ∙ ap (λ b. b.entries) c.self.view_is in
    rw (entries, moments) refl
