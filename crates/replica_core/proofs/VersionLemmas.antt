-- The versions of a document, as a loop over its operations makes them.
use Rattle.std.proofs.Common.{◌≡◌, ℕ, suc, ◌+◌, ◌<◌, true, false, List, [], ◌∷◌, ◌++◌, length, map, filter, drop, get_or, Option, Some, None, sym, ◌∙◌, ap}
use Rattle.std.proofs.Common.{add-one, append_assoc, arith, drop-cons}
use Rattle.std.specs.Prelude.{◌==◌, if◌then◌else◌}
use Rattle.std.proofs.lemmas.Bool.{eq-eqb, ne_eqb}
use Rattle.op_list.specs.declared.head.OpHead.{OpHead}
use Rattle.op_list.specs.Heads.{heads}
use Rattle.op_model.specs.declared.op.Op.{Op}
use Rattle.list_counts.specs.Versions.{begun, goes_on, longer, makers, versions_after}
use Rattle.list_counts.specs.declared.version.Version.{Version}
use Rattle.replica_core.specs.Versions.{IsAtMost}
use Rattle.replica_core.proofs.HeadLemmas.{head_back}

-- ---- the next operation

-- the last version goes on with it
pub goes : (every replica : ℕ) (v : Version) (ended : List Version) (more : List ℕ) → goes_on every v replica ≡ true
    → ended ++ versions_after every v (replica ∷ more) ≡ ended ++ versions_after every (longer v) more
goes every replica v ended more on = ap (λ b. ended ++ (if b then versions_after every (longer v) more else v ∷ versions_after every (begun v.rev replica) more)) on

-- or it has ended
pub ends : (every replica : ℕ) (v : Version) (ended : List Version) (more : List ℕ) → goes_on every v replica ≡ false
    → ended ++ versions_after every v (replica ∷ more) ≡ (ended ++ v ∷ []) ++ versions_after every (begun v.rev replica) more
ends every replica v ended more on =
    ap (λ b. ended ++ (if b then versions_after every (longer v) more else v ∷ versions_after every (begun v.rev replica) more)) on
    ∙ sym (append_assoc ended (v ∷ []) (versions_after every (begun v.rev replica) more))

-- ---- where the loop is

-- one of the document's is the next of the makers
pub maker_next : (list : List Op) (doc k : ℕ) (h : OpHead) → k < length list → h ≡ get_or (heads list) k h → h.doc ≡ doc
    → makers (drop k list) doc ≡ h.id.replica ∷ makers (drop (k + 1) list) doc
maker_next list doc k h here is own =
    let found = head_back list k h here is in
    let op = found.0 in
    let mine : op.doc ≡ doc = sym (ap (λ (x : OpHead). x.doc) found.2) ∙ own in
    ap (λ ops. makers ops doc) (drop-cons list k op here ∙ ap (λ x. x ∷ drop (suc k) list) (sym found.1))
    ∙ (ap (λ b. map (λ o. o.id.replica) (if b then op ∷ filter (λ o. o.doc == doc) (drop (suc k) list) else filter (λ o. o.doc == doc) (drop (suc k) list))) (eq-eqb op.doc doc mine)
    ∙ (ap (λ r. r ∷ makers (drop (suc k) list) doc) (ap (λ (x : OpHead). x.id.replica) (sym found.2))
    ∙ ap (λ n. h.id.replica ∷ makers (drop n list) doc) (sym (add-one k))))

-- one of another document is passed by
pub maker_none : (list : List Op) (doc k : ℕ) (h : OpHead) → k < length list → h ≡ get_or (heads list) k h → (h.doc ≡ doc → ⊥)
    → makers (drop k list) doc ≡ makers (drop (k + 1) list) doc
maker_none list doc k h here is other =
    let found = head_back list k h here is in
    let op = found.0 in
    let apart : op.doc ≡ doc → ⊥ = λ own. other (ap (λ (x : OpHead). x.doc) found.2 ∙ own) in
    ap (λ ops. makers ops doc) (drop-cons list k op here ∙ ap (λ x. x ∷ drop (suc k) list) (sym found.1))
    ∙ (ap (λ b. map (λ o. o.id.replica) (if b then op ∷ filter (λ o. o.doc == doc) (drop (suc k) list) else filter (λ o. o.doc == doc) (drop (suc k) list))) (ne_eqb op.doc doc apart)
    ∙ ap (λ n. makers (drop n list) doc) (sym (add-one k)))

-- what is at most a number is at most the next one
pub at_most_next : (n : ℕ) (last : Option Version) → IsAtMost n last → IsAtMost (n + 1) last
at_most_next n None few = few
at_most_next n (Some v) few = (omega (arith, few.0), omega (arith, few.1))
