-- Passes that are made one after another, and the books of a hub that has made no step.
use Rattle.std.proofs.Common.{◌≡◌, ℕ, zero, suc, ◌+◌, ◌<◌, ◌≤◌, List, [], ◌∷◌, ◌++◌, length, drop, All, Some, slice_get}
use Rattle.std.proofs.Common.{refl, sym, ap, ◌∙◌, arith, add-one, length-append}
use Rattle.std.proofs.Math.ListN.{get_or}
use Rattle.std.proofs.lemmas.List.{drop_more, get_or_append_left, length-drop, map-append}
use Rattle.std.proofs.lemmas.List.Elements.{All-drop, All-map, All-nil, All-weaker}
use Rattle.std.proofs.lemmas.Option.{slice_get_read, slice_get_within, get_or_from_slice_get}
use Rattle.op_model.specs.Replay.{Kept}
use Rattle.hub_parts.specs.Locked.{IsLocked, LockedHeld}
use Rattle.pass_books.specs.Accounts.{Account, books_of, names_of}
use Rattle.shared_hub.specs.Books.{PassHeld, ends_of, BooksFit, IsFresh, new_passes}
use Rattle.shared_hub.specs.Moments.{AreBooksOf, IsPastOf, WasSettledAt, with_book}
use Rattle.shared_hub.proofs.MetLemmas.{met_entered}
use Rattle.shared_hub.proofs.MomentLemmas.{moments_entered}

-- the first of what is left of a list behind n elements is its n-th
pub next_of : {A : Type 0} (xs : List A) (n : ℕ) (x : A) (ys : List A) → drop n xs ≡ x ∷ ys
    → (slice_get xs n ≡ Some x) × (drop (n + 1) xs ≡ ys)
next_of xs n x ys is =
    let within : n < length xs = omega (arith, ap length is, length-drop n xs) in
    let both : x ∷ ys ≡ get_or xs n x ∷ drop (n + 1) xs = sym is ∙ drop_more xs n x within in
    let first : x ≡ get_or xs n x = cc in
    let rest : ys ≡ drop (n + 1) xs = cc in (slice_get_read xs (length xs) n x refl within first, sym rest)

-- books without entries fit a hub that has made no step
fresh_fit : (steps : List Kept) (accounts : List (Account LockedHeld)) → steps ≡ [] → All IsFresh accounts
    → BooksFit steps (books_of accounts).entries
fresh_fit steps accounts none fresh n entries found =
    let books = (books_of accounts).entries in
    let all : All (λ es. es ≡ []) books = All-map (λ es. es ≡ []) (λ (a : Account LockedHeld). a.entries) accounts
    (All-weaker IsFresh (λ (a : Account LockedHeld). a.entries ≡ []) (λ a is. is.entries) accounts fresh) in
    let within = slice_get_within books n entries found in
    sym (get_or_from_slice_get books n entries entries found) ∙ all n entries within
    ∙ ap (λ kept. ends_of n kept) (sym none)

-- fresh books have no moments
no_moments : (accounts : List (Account LockedHeld)) → All IsFresh accounts → (n : ℕ) (moments : List LockedHeld)
    → slice_get (books_of accounts).moments n ≡ Some moments → moments ≡ []
no_moments accounts fresh n moments found =
    let books = (books_of accounts).moments in
    let all : All (λ ms. ms ≡ []) books = All-map (λ ms. ms ≡ []) (λ (a : Account LockedHeld). a.moments) accounts
    (All-weaker IsFresh (λ (a : Account LockedHeld). a.moments ≡ []) (λ a is. is.moments) accounts fresh) in
    let within = slice_get_within books n moments found in
    sym (get_or_from_slice_get books n moments moments found) ∙ all n moments within

-- where this moment is entered into the flusher's, they fit it
pub fresh_books : (l : LockedHeld) (accounts : List (Account LockedHeld)) → l.replica.steps ≡ [] → IsLocked l → All IsFresh accounts
    → slice_get (books_of accounts).moments 0 ≡ Some [] → AreBooksOf l (with_book (books_of accounts) 0 (l ∷ []))
fresh_books l accounts none sound fresh there =
    let books = (books_of accounts).moments in record {
      entries = fresh_fit l.replica.steps accounts none fresh;
      moments = moments_entered l books 0 [] (λ n moments found. rw (no_moments accounts fresh n moments found) (All-nil (IsPastOf l))) sound there;
      met = met_entered l books [] (λ n moments found. rw (no_moments accounts fresh n moments found) (All-nil (WasSettledAt []))) there;
    }

-- what holds of all holds of the first, and of those behind it
pub all_behind : {A : Type 0} (P : A → Type 0) (x : A) (xs : List A) → All P (x ∷ xs) → P x × All P xs
all_behind P x xs all = (all 0 x (omega arith), All-drop P 1 (x ∷ xs) all)

-- books and shares of the same names, with one more of each
pub names_more : (shares books : List (Account LockedHeld)) (share book : Account LockedHeld) → names_of shares ≡ names_of books
    → book.name ≡ share.name → names_of (shares ++ share ∷ []) ≡ names_of (books ++ book ∷ [])
names_more shares books share book names name =
    map-append (λ (a : Account LockedHeld). a.name) shares (share ∷ []) ∙ ap (λ ns. ns ++ share.name ∷ []) names
    ∙ ap (λ n. names_of books ++ n ∷ []) (sym name) ∙ sym (map-append (λ (a : Account LockedHeld). a.name) books (book ∷ []))

-- the next pass makes the first ones one more
pub one_more : (passes : List PassHeld) (p : PassHeld) (n : ℕ) → passes ≡ new_passes n → p ≡ record { number = n; entries = []; moments = [] }
    → passes ++ p ∷ [] ≡ new_passes (n + 1)
one_more passes p n first is = rw (first, is, add-one n) refl

-- where nothing is left behind the first n of a list, it has no more
pub none_left : {A : Type 0} (xs : List A) (n : ℕ) → n ≤ length xs → drop n xs ≡ [] → n ≡ length xs
none_left xs n within none = omega (arith, within, ap length none, length-drop n xs)

-- there are n new passes
pub length_new : (n : ℕ) → length (new_passes n) ≡ n
length_new zero = refl
length_new (suc n) = length-append (new_passes n) (record { number = n; entries = []; moments = [] } ∷ []) ∙ ap (λ k. k + 1) (length_new n) ∙ add-one n

-- and the first one has the number 0
pub first_new : (n : ℕ) (d : PassHeld) → get_or (new_passes (suc n)) 0 d ≡ record { number = 0; entries = []; moments = [] }
first_new zero d = refl
first_new (suc n) d =
    get_or_append_left (new_passes (suc n)) (record { number = suc n; entries = []; moments = [] } ∷ []) d 0 (omega (arith, length_new (suc n)))
    ∙ first_new n d
