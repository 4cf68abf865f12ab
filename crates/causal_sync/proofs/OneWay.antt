-- A stream is heard in one way.
use Rattle.std.proofs.Common.{◌≡◌, ℕ, Bool, true, false, ◌&&◌, ◌||◌, List, [], ◌∷◌, ◌++◌, length, drop, Option, Some, None, Result, Ok}
use Rattle.std.proofs.Common.{refl, sym, ap, ◌∙◌, append_assoc}
use Rattle.std.proofs.lemmas.List.{drop_at}
use Rattle.causal_sync.specs.declared.heard.Heard.{Heard}
use Rattle.causal_sync.specs.declared.link_error.LinkError.{LinkError}
use Rattle.causal_sync.specs.Frames.{frame_bytes, frames_bytes, is_bye, is_over, IsFrame}
use Rattle.causal_sync.specs.Hearing.{HearsFrom, is_none, unread}
use Rattle.causal_sync.specs.Reading.{frame_at}
use Rattle.causal_sync.proofs.AgainLemmas.{frame_again}

-- a frame that is read is neither missing nor at fault
not_unread : (r : Result (Option (Heard × ℕ)) LinkError) (x : Heard × ℕ) (fault : Option LinkError) → r ≡ Ok (Some x) → r ≡ unread fault → ⊥
not_unread r x None is e = cc
not_unread r x (Some f) is e = cc

-- a frame that was read
abbrev pub found : Heard × ℕ → Result (Option (Heard × ℕ)) LinkError
found x = Ok (Some x)

-- two readings of one frame
same_frame : (own : ℕ) (first : Bool) (f g : Heard) (x y : List ℕ) → IsFrame own first f → IsFrame own first g → frame_bytes f ++ x ≡ frame_bytes g ++ y → (f ≡ g) × (x ≡ y)
same_frame own first f g x y is_f is_g e =
    let one = frame_again own first f x is_f in
    let two = frame_again own first g y is_g in
    let both : (f, length (frame_bytes f)) ≡ (g, length (frame_bytes g)) = found_same (f, length (frame_bytes f)) (g, length (frame_bytes g)) (sym one ∙ ap (frame_at own first) e ∙ two) in
    let size : length (frame_bytes f) ≡ length (frame_bytes g) = ap (λ (p : Heard × ℕ). p.1) both in (
      ap (λ (p : Heard × ℕ). p.0) both,
      sym (drop_at (frame_bytes f) x (length (frame_bytes f)) refl) ∙ ap (drop (length (frame_bytes f))) e ∙ drop_at (frame_bytes g) y (length (frame_bytes f)) (sym size),
    )
  where
    found_same : (p q : Heard × ℕ) → found p ≡ found q → p ≡ q
    found_same p q e = cc

-- two faults that nothing is read for are one
unread_same : (e f : Option LinkError) → unread e ≡ unread f → e ≡ f
unread_same None None is = refl
unread_same None (Some f) is = absurd cc
unread_same (Some e) None is = absurd cc
unread_same (Some e) (Some f) is = cc

-- what is heard behind a frame that is no BYE
behind_one : (own : ℕ) (first : Bool) (stream : List ℕ) (frame : Heard) (frames : List Heard) (rest : List ℕ) (fault : Option LinkError) → is_bye frame ≡ false
    → HearsFrom own first stream (frame ∷ frames) rest fault → (tail : List ℕ) → frames_bytes frames ++ rest ≡ tail → HearsFrom own false tail frames rest fault
behind_one own first stream frame frames rest fault no_bye h tail is =
    record {
      spelled_so = is;
      are = h.are.2;
      unread = λ going. ap (λ (b : Bool). frame_at own b rest) (and_false (is_none frames)) ∙ h.unread (ap (λ (b : Bool). b || is_over frames) no_bye ∙ going);
      over = λ over. h.over (ap (λ (b : Bool). b || is_over frames) no_bye ∙ over);
    }
  where
    and_false : (x : Bool) → (x && false) ≡ false
    and_false true = refl
    and_false false = refl

-- one frame and the lists behind it
finish : (u v : Heard) (us vs : List Heard) (e f : Option LinkError) (b : Bool) → is_bye u ≡ b → u ≡ v → (is_bye u ≡ true → us ≡ []) → (is_bye v ≡ true → vs ≡ [])
    → (is_bye u ≡ true → e ≡ f) → (is_bye u ≡ false → (us ≡ vs) × (e ≡ f)) → (u ∷ us ≡ v ∷ vs) × (e ≡ f)
finish u v us vs e f true bye same none_u none_v faults others =
    let lists : us ≡ vs = none_u bye ∙ sym (none_v (ap is_bye (sym same) ∙ bye)) in
    (λ i. same i ∷ lists i, faults bye)
finish u v us vs e f false bye same none_u none_v faults others =
    let lists = (others bye).0 in
    (λ i. same i ∷ lists i, (others bye).1)

-- a stream is heard in one way from the front on
pub one_way : (a b : List Heard) (own : ℕ) (first : Bool) (stream x y : List ℕ) (e f : Option LinkError)
    → HearsFrom own first stream a x e → HearsFrom own first stream b y f → (a ≡ b) × (e ≡ f)
one_way [] [] own first stream x y e f h k =
    (refl, unread_same e f (sym (h.unread refl) ∙ ap (frame_at own first) (h.spelled_so ∙ sym k.spelled_so) ∙ k.unread refl))
one_way [] (v ∷ vs) own first stream x y e f h k =
    let is : x ≡ frame_bytes v ++ (frames_bytes vs ++ y) = h.spelled_so ∙ sym k.spelled_so ∙ append_assoc (frame_bytes v) (frames_bytes vs) y in
    absurd (not_unread (frame_at own first x) (v, length (frame_bytes v)) e (ap (frame_at own first) is ∙ frame_again own first v (frames_bytes vs ++ y) k.are.0) (h.unread refl))
one_way (u ∷ us) [] own first stream x y e f h k =
    let is : y ≡ frame_bytes u ++ (frames_bytes us ++ x) = k.spelled_so ∙ sym h.spelled_so ∙ append_assoc (frame_bytes u) (frames_bytes us) x in
    absurd (not_unread (frame_at own first y) (u, length (frame_bytes u)) f (ap (frame_at own first) is ∙ frame_again own first u (frames_bytes us ++ x) h.are.0) (k.unread refl))
one_way (u ∷ us) (v ∷ vs) own first stream x y e f h k =
    let joined : frame_bytes u ++ (frames_bytes us ++ x) ≡ frame_bytes v ++ (frames_bytes vs ++ y) =
    sym (append_assoc (frame_bytes u) (frames_bytes us) x) ∙ h.spelled_so ∙ sym k.spelled_so ∙ append_assoc (frame_bytes v) (frames_bytes vs) y in
    let same = same_frame own first u v (frames_bytes us ++ x) (frames_bytes vs ++ y) h.are.0 k.are.0 joined in
    let byes : is_bye v ≡ is_bye u = ap is_bye (sym same.0) in
    finish u v us vs e f (is_bye u) refl same.0 h.are.1 k.are.1
    (λ bye. h.over (ap (λ (b : Bool). b || is_over us) bye) ∙ sym (k.over (ap (λ (b : Bool). b || is_over vs) (byes ∙ bye))))
    (λ no_bye. one_way us vs own false (frames_bytes us ++ x) x y e f (behind_one own first stream u us x e no_bye h (frames_bytes us ++ x) refl) (behind_one own first stream v vs y f (byes ∙ no_bye) k (frames_bytes us ++ x) (sym same.1)))
