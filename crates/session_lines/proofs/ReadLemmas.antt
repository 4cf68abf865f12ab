-- Steps of a reading, one after the other.
use Rattle.std.proofs.Common.{◌≡◌, ◌≢◌, Result, Ok, Err, sym, ap, subst, ◌∙◌}
use Rattle.std.specs.Result.{IfErr, IsErrAnd}
use Rattle.session_lines.specs.declared.refusal.Refusal.{Refusal}
use Rattle.session_lines.specs.declared.refusal.Refusal.TheVariants.{Memory}
use Rattle.session_lines.specs.Fields.{◌>>=◌, Reads}

-- out of memory, of which a reading says nothing
pub out_of_memory : {A : Type 0} (r read : Result A Refusal) → IsErrAnd r (λ y. y ≡ Memory) → Reads r read
out_of_memory (Ok x) read is = absurd is
out_of_memory (Err y) read is = λ other. absurd (other is)

-- the same, where a contract says it of any other refusal
pub no_other_refusal : {A : Type 0} (r : Result A Refusal) (Q : Refusal → Type 0) → IsErrAnd r (λ y. y ≡ Memory) → IfErr r (λ y. y ≢ Memory → Q y)
no_other_refusal (Ok x) Q is = tt
no_other_refusal (Err y) Q is = λ other. absurd (other is)

-- the refusal that ended it, if that isn't out of memory
pub same_refusal : {A B : Type 0} {e : Refusal} (r : Result A Refusal) (whole : Result B Refusal) → IsErrAnd r (λ y. y ≡ e)
    → (e ≢ Memory → whole ≡ Err e) → IfErr r (λ y. y ≢ Memory → whole ≡ Err y)
same_refusal (Ok x) whole is p = tt
same_refusal (Err y) whole is p = λ other. p (λ memory. other (is ∙ memory)) ∙ ap (λ x. Err x) (sym is)

-- a step that is refused ends the reading
pub refused : {A B : Type 0} {e : Refusal} (read : Result A Refusal) (f : A → Result B Refusal) (r : Result B Refusal)
    → IsErrAnd r (λ y. y ≡ e) → Reads {A = A} (Err e) read → Reads r (read >>= f)
refused read f (Ok x) is p = absurd is
refused read f (Err y) is p = λ other. ap (λ o. o >>= f) (p (λ memory. other (is ∙ memory))) ∙ ap (λ x. Err x) (sym is)

-- a step that is read, and then what follows
pub step : {A B : Type 0} {x : A} (read : Result A Refusal) (f : A → Result B Refusal) (r : Result B Refusal)
    → read ≡ Ok x → Reads r (f x) → Reads r (read >>= f)
step read f r p q = subst (λ (o : Result _ Refusal). Reads r (o >>= f)) (sym p) q
