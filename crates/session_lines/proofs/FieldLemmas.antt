-- What the tests of fields say of the definitions.
use Rattle.std.proofs.Common.{◌≡◌, ◌↔◌, ℕ, zero, suc, ◌<◌, List, [], ◌∷◌, ◌++◌, map, Bool, true, false}
use Rattle.std.proofs.Common.{true≢false, ◌∙◌, length, IsSome, ◌||◌, ◌==◌, if◌then◌else◌, Option, Some, None, IsNone, IfSome}
use Rattle.std.proofs.Common.{MatchOption, Err}
use Rattle.std.proofs.Common.{refl, sym, ap, subst, arith, String, string_bytes, Bor}
use Rattle.std.proofs.Math.Bridge.{le_prop}
use Rattle.std.proofs.lemmas.List.Folds.{list_any-append}
use Rattle.std.proofs.lemmas.Bool.Decides.{nat_tests}
use Rattle.std.specs.Option.{ok_or}
use Rattle.std.specs.Prelude.{nat_lt}
use Rattle.std.specs.List.{list_any, list_all}
use Rattle.std.specs.Map.{keys_of}
use Rattle.std.specs.Str.{IsUtf8, is_utf8, bytes_eq}
use Rattle.std.proofs.lemmas.Str.{IsUtf8-from_is_utf8}
use Rattle.std.specs.declared.alloc.Global.{Global}
use Rattle.std.specs.declared.num.NonZeroU32.{NonZeroU32}
use Rattle.serde_json.specs.declared.value.Value.{Value}
use Rattle.serde_json.specs.Read.{read}
use Rattle.serde_json.specs.View.{members_view}
use Rattle.session_lines.specs.declared.refusal.Refusal.TheVariants.{Syntax, Field}
use Rattle.session_lines.specs.Fields.{Reads, some_characters, or_field, is_among, are_among, non_zero, not_nil}
use Rattle.session_lines.specs.Requests.{or_syntax, reading}

-- a value that is nowhere found isn't there
pub no_value : (o : Option (List ℕ)) → ((u : List ℕ) × (o ≡ Some u) → false ≡ true) → o ≡ None
no_value None h = refl
no_value (Some u) h = absurd (true≢false (sym (h (u, refl))))

-- what is there is read, and nothing is refused
pub or_field_reads : {A : Type 0} (o : Option A) → Reads (ok_or o Field) (or_field o)
or_field_reads None = λ _. refl
or_field_reads (Some x) = refl

-- a line is no JSON value where UTF-8 is never one
by_test : (line : List ℕ) (test : Bool) → is_utf8 line ≡ test → (IsUtf8 line → read line ≡ None)
    → or_syntax (if test then read line else None) ≡ Err Syntax
by_test line true is none = rw (none (IsUtf8-from_is_utf8 line is)) refl
by_test line false is none = refl

pub none_read : (line : List ℕ) → (IsUtf8 line → read line ≡ None) → or_syntax (reading line) ≡ Err Syntax
none_read line none = by_test line (is_utf8 line) refl none

-- two numbers above 0 with the same value are one
same_value : (v w : ℕ) → v ≡ w → (p : 0 < v) (q : 0 < w)
    → ◌≡◌ {A = NonZeroU32} (record { value = v; ok = p }) (record { value = w; ok = q })
same_value v w e p q =
    let P : ℕ → Type 0 = λ n. (q : 0 < n) → ◌≡◌ {A = NonZeroU32} (record { value = v; ok = p }) (record { value = n; ok = q }) in
    subst P e (λ r. ap (λ (o : 0 < v). let x : NonZeroU32 = record { value = v; ok = o } in x) (le_prop p r)) q

same_number : (n : ℕ) (x : NonZeroU32) → x.value ≡ n → Some x ≡ non_zero n
same_number zero x e = absurd (let above : 0 < x.value = x.ok in omega arith)
same_number (suc n) x e = ap Some (same_value x.value (suc n) e x.ok _)

-- a number that is made where it isn't 0
pub is_non_zero : (o : Option NonZeroU32) (n : ℕ) → MatchOption o (n ≡ 0) (λ x. x.value ≡ n) → o ≡ non_zero n
is_non_zero None n e = rw e refl
is_non_zero (Some x) n e = same_number n x e

-- a number that is there exactly where it isn't the nil UUID's
by_zero : (t n : ℕ) (zero : Bool) → (n == 0) ≡ zero → (n ≡ 0 → ⊥) → t ≡ n → Some t ≡ (if zero then None else Some n)
by_zero t n true is not_zero same = let nil : n ≡ 0 = grind (arith, nat_tests) in absurd (not_zero nil)
by_zero t n false is not_zero same = ap Some same

pub is_not_nil : (o : Option ℕ) (n : ℕ) → (IsNone o ↔ (n ≡ 0)) → IfSome o (λ t. t ≡ n) → o ≡ not_nil n
is_not_nil None n nil same = let e : n ≡ 0 = nil.0 refl in rw e refl
is_not_nil (Some t) n nil same = by_zero t n (n == 0) refl (λ e. true≢false (nil.1 e)) same

-- characters that are there exactly where there is at least one
by_first : (text cs : List ℕ) (some : Bool) → nat_lt 0 (length cs) ≡ some → 0 < length cs → text ≡ cs → Some text ≡ (if some then Some cs else None)
by_first text cs true is long same = ap Some same
by_first text cs false is long same = absurd (true≢false (let yes : nat_lt 0 (length cs) ≡ true = grind (arith, nat_tests) in sym yes ∙ is))

by_none : (cs : List ℕ) (some : Bool) → nat_lt 0 (length cs) ≡ some → (0 < length cs → ⊥) → None ≡ (if some then Some cs else None)
by_none cs true is none = absurd (none (grind (arith, nat_tests)))
by_none cs false is none = refl

pub is_some_characters : (o : Option (List ℕ)) (cs : List ℕ) (n : ℕ) → n ≡ length cs → (IsSome o ↔ (0 < n)) → IfSome o (λ t. t ≡ cs) → o ≡ some_characters cs
is_some_characters None cs n count some same =
    by_none cs _ refl (λ long. true≢false (sym (some.1 (omega (arith, count, long)))))
is_some_characters (Some text) cs n count some same = by_first text cs _ refl (omega (arith, count, some.0 refl)) same

-- a name is among names that are lent
among_lent : (name : List ℕ) (names : List (Bor (List ℕ)))
    → list_any (λ other. bytes_eq other.now name) names ≡ is_among name (map (λ other. other.now) names)
among_lent name [] = refl
among_lent name (n ∷ ns) = ap (λ rest. bytes_eq n.now name || rest) (among_lent name ns)

-- a name is among these or those
among_both : (name : List ℕ) (outer own : List (Bor (List ℕ)))
    → (list_any (λ other. bytes_eq other.now name) outer || list_any (λ other. bytes_eq other.now name) own)
    ≡ is_among name (map (λ other. other.now) outer ++ map (λ other. other.now) own)
among_both name outer own =
    rw (list_any-append (λ n. bytes_eq n name) (map (λ other. other.now) outer) (map (λ other. other.now) own), among_lent name outer, among_lent name own) refl

-- the keys of a map are the names of its members
pub among_keys : (members : List (String Global × Value)) (outer own : List (Bor (List ℕ)))
    → list_all (λ key. list_any (λ other. bytes_eq other.now (string_bytes key)) outer || list_any (λ other. bytes_eq other.now (string_bytes key)) own)
    (keys_of members)
    ≡ are_among (members_view members) (map (λ other. other.now) outer ++ map (λ other. other.now) own)
among_keys [] outer own = refl
among_keys (m ∷ ms) outer own = rw (among_both (string_bytes m.0) outer own, among_keys ms outer own) refl
