-- What holds the list after each call.
use Rattle.std.proofs.Common.{◌≡◌, ℕ, suc, ◌+◌, ◌<◌, ◌^◌, true, false, List, [], ◌∷◌}
use Rattle.std.proofs.Common.{◌++◌, length, get_or, take, None, refl, sym, ap, subst, ◌∙◌, arith, length-append}
use Rattle.std.proofs.lemmas.List.{length-take}
use Rattle.op_model.specs.declared.op.Op.{Op}
use Rattle.change_codec.specs.Fits.{IsOperation}
use Rattle.change_codec.proofs.StreamLaws.{are_more}
use Rattle.op_list.proofs.Holding.{fits_take}
use Rattle.op_pieces.specs.Cutting.{value_of}
use Rattle.run_list.specs.Runs.{goes_on, mark_of, marks_behind, firsts_behind, starts_behind, last_behind, unrolled, HoldsRuns}
use Rattle.run_list.specs.Reading.{below, run_at, read_at}
use Rattle.run_list.proofs.Parts.{length-marks, length-firsts, marks-take, below-starts, starts-take, firsts-take}
use Rattle.run_list.proofs.Parts.{marks-more, firsts-same, firsts-more, starts-same, starts-more}
use Rattle.run_list.proofs.Unrolling.{held_is}
use Rattle.run_list.proofs.Reading.{reads, run_found, found_below, some_found}

-- nothing, held
pub holds_empty : (marks : List ℕ) (firsts : List Op) (starts : List ℕ) → marks ≡ [] → firsts ≡ [] → starts ≡ [] → HoldsRuns marks firsts starts []
holds_empty marks firsts starts marks_are firsts_are starts_are =
    record { marks_so = marks_are; firsts_so = firsts_are; starts_so = starts_are; fits = tt; few = omega arith }

pub marks_long : (marks : List ℕ) (firsts : List Op) (starts : List ℕ) (ops : List Op) → HoldsRuns marks firsts starts ops
    → length marks ≡ length ops
marks_long marks firsts starts ops holds = ap length holds.marks_so ∙ length-marks None ops

-- one more that goes on with the last run
pub holds_next : (marks : List ℕ) (firsts : List Op) (starts : List ℕ) (ops : List Op) (op : Op) (more_marks : List ℕ)
    → HoldsRuns marks firsts starts ops → IsOperation op → goes_on (last_behind None ops) op ≡ true
    → more_marks ≡ marks ++ value_of op.body ∷ [] → length ops + 1 < 2 ^ 32 → HoldsRuns more_marks firsts starts (ops ++ op ∷ [])
holds_next marks firsts starts ops op more_marks holds fits on marks_are small =
    let mark : mark_of (last_behind None ops) op ≡ value_of op.body = rw on refl in
    record {
      marks_so =
          marks_are ∙ ap (λ (ms : List ℕ). ms ++ value_of op.body ∷ []) holds.marks_so
          ∙ ap (λ (m : ℕ). marks_behind None ops ++ m ∷ []) (sym mark) ∙ sym (marks-more None ops op);
      firsts_so = holds.firsts_so ∙ sym (firsts-same None ops op on);
      starts_so = holds.starts_so ∙ sym (starts-same None 0 ops op on);
      fits = are_more ops op holds.fits fits;
      few = omega (arith, length-append ops (op ∷ []));
    }

-- one more that begins a run
pub holds_first : (marks : List ℕ) (firsts : List Op) (starts : List ℕ) (ops : List Op) (op : Op) (more_marks : List ℕ) (more_firsts : List Op)
    (more_starts : List ℕ) → HoldsRuns marks firsts starts ops → IsOperation op → goes_on (last_behind None ops) op ≡ false
    → more_marks ≡ marks ++ 1114112 ∷ [] → more_firsts ≡ firsts ++ op ∷ [] → more_starts ≡ starts ++ length marks ∷ []
    → length ops + 1 < 2 ^ 32 → HoldsRuns more_marks more_firsts more_starts (ops ++ op ∷ [])
holds_first marks firsts starts ops op more_marks more_firsts more_starts holds fits off marks_are firsts_are starts_are small =
    let mark : mark_of (last_behind None ops) op ≡ 1114112 = rw off refl in
    let end : length marks ≡ 0 + length ops = (let l = ap length holds.marks_so in let m = length-marks None ops in omega arith) in
    record {
      marks_so =
          marks_are ∙ ap (λ (ms : List ℕ). ms ++ 1114112 ∷ []) holds.marks_so
          ∙ ap (λ (m : ℕ). marks_behind None ops ++ m ∷ []) (sym mark) ∙ sym (marks-more None ops op);
      firsts_so = firsts_are ∙ ap (λ (fs : List Op). fs ++ op ∷ []) holds.firsts_so ∙ sym (firsts-more None ops op off);
      starts_so =
          starts_are ∙ ap (λ (ss : List ℕ). ss ++ length marks ∷ []) holds.starts_so
          ∙ sym (starts-more None 0 (length marks) ops op end off);
      fits = are_more ops op holds.fits fits;
      few = omega (arith, length-append ops (op ∷ []));
    }

-- the first operations
pub holds_front : (marks : List ℕ) (firsts : List Op) (starts : List ℕ) (ops : List Op) (n k : ℕ) (front_marks : List ℕ)
    (front_firsts : List Op) (front_starts : List ℕ) → HoldsRuns marks firsts starts ops → k ≡ below n starts
    → front_marks ≡ take n marks → front_firsts ≡ take k firsts → front_starts ≡ take k starts
    → HoldsRuns front_marks front_firsts front_starts (take n ops)
holds_front marks firsts starts ops n k front_marks front_firsts front_starts holds k_is marks_are firsts_are starts_are =
    let count : k ≡ length (starts_behind None 0 (take n ops)) =
    k_is ∙ ap (below n) holds.starts_so ∙ below-starts n 0 n None ops (omega arith) in
    record {
      marks_so = marks_are ∙ ap (take n) holds.marks_so ∙ marks-take n None ops;
      firsts_so =
          firsts_are ∙ ap (λ (j : ℕ). take j firsts) count ∙ ap (take (length (starts_behind None 0 (take n ops)))) holds.firsts_so
          ∙ firsts-take n 0 None ops;
      starts_so =
          starts_are ∙ ap (λ (j : ℕ). take j starts) count ∙ ap (take (length (starts_behind None 0 (take n ops)))) holds.starts_so
          ∙ starts-take n 0 None ops;
      fits = fits_take n ops holds.fits;
      few = (let less = length-take n ops in let small = holds.few in omega arith);
    }

-- the i-th operation stands in the run that a search by halves finds
pub record Found (marks : List ℕ) (firsts : List Op) (starts : List ℕ) (ops : List Op) (i j : ℕ) : Type 0 where
  pub run : j < length starts
  pub whole : j < length firsts
  pub begun : get_or starts j 0 < suc i
  pub inside : i < length marks
  pub is_it : (d e : Op) → get_or ops i d ≡ read_at i (get_or firsts j e, get_or starts j 0) (get_or marks i 0)

pub found : (marks : List ℕ) (firsts : List Op) (starts : List ℕ) (ops : List Op) (i j : ℕ) → HoldsRuns marks firsts starts ops
    → i < length ops → below (suc i) starts ≡ suc j → Found marks firsts starts ops i j
found marks firsts starts ops i j holds lt count =
    let long : length firsts ≡ length starts =
    ap length holds.firsts_so ∙ length-firsts None 0 ops ∙ sym (ap length holds.starts_so) in
    let at = found_below (suc i) starts j 0 count in
    let size : length marks ≡ length ops = ap length holds.marks_so ∙ length-marks None ops in
    record {
      run = at.0;
      whole = omega (arith, at.0);
      begun = at.1;
      inside = omega arith;
      is_it = λ d e.
          reads ops i d e lt
          ∙ ap (λ (ss : List ℕ). read_at i (run_at i (e, 0) ss (firsts_behind None ops)) (get_or (marks_behind None ops) i 0)) (sym holds.starts_so)
          ∙ ap (λ (fs : List Op). read_at i (run_at i (e, 0) starts fs) (get_or (marks_behind None ops) i 0)) (sym holds.firsts_so)
          ∙ ap (λ (ms : List ℕ). read_at i (run_at i (e, 0) starts firsts) (get_or ms i 0)) (sym holds.marks_so)
          ∙ ap (λ (r : Op × ℕ). read_at i r (get_or marks i 0)) (run_found i (e, 0) starts firsts j 0 e count long);
    }

-- some run is found
pub some_run : (marks : List ℕ) (firsts : List Op) (starts : List ℕ) (ops : List Op) (i : ℕ) → HoldsRuns marks firsts starts ops
    → i < length ops → 0 < below (suc i) starts
some_run marks firsts starts ops i holds lt =
    let some = some_found ops i (omega arith) in
    let same = ap (below (suc i)) holds.starts_so in
    omega arith

-- each list is held in one way, and what is held is one list
pub same_held : (marks other_marks : List ℕ) (firsts other_firsts : List Op) (starts other_starts : List ℕ) (ops others : List Op)
    → HoldsRuns marks firsts starts ops → HoldsRuns other_marks other_firsts other_starts others → marks ≡ other_marks
    → firsts ≡ other_firsts → ops ≡ others
same_held marks other_marks firsts other_firsts starts other_starts ops others a b marks_are firsts_are =
    sym (held_is marks firsts starts ops a)
    ∙ ap (λ (ms : List ℕ). unrolled ms None firsts) marks_are ∙ ap (unrolled other_marks None) firsts_are
    ∙ held_is other_marks other_firsts other_starts others b

-- the first operations of a list, by what it holds
pub front_held : (marks : List ℕ) (firsts : List Op) (starts : List ℕ) (list : List Op) (seen : List ℕ) (n k : ℕ) (ops : List Op)
    → HoldsRuns marks firsts starts list → seen ≡ starts → n ≡ length ops → k ≡ below n seen → take (length ops) list ≡ ops
    → HoldsRuns (take n marks) (take k firsts) (take k starts) ops
front_held marks firsts starts list seen n k ops holds seen_is n_is k_is front =
    subst (λ (os : List Op). HoldsRuns (take n marks) (take k firsts) (take k starts) os)
    (ap (λ (m : ℕ). take m list) n_is ∙ front)
    (holds_front marks firsts starts list n k (take n marks) (take k firsts) (take k starts) holds
    (k_is ∙ ap (below n) seen_is) refl refl refl)

-- as many begin a run as there are whole operations, or fewer
pub few_firsts : (marks : List ℕ) (firsts : List Op) (starts : List ℕ) (ops : List Op) → HoldsRuns marks firsts starts ops
    → length firsts ≡ length starts
few_firsts marks firsts starts ops holds = ap length holds.firsts_so ∙ length-firsts None 0 ops ∙ sym (ap length holds.starts_so)
