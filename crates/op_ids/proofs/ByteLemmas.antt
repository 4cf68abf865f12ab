-- Sixteen bytes and their number, the highest first.
use Rattle.std.proofs.Common.{◌≡◌, ℕ, ◌+◌, ◌*◌, ◌/◌, ◌%◌, ◌<◌, List, [], ◌∷◌, length, get_or, sym, ◌∙◌, refl, arith}
use Rattle.std.proofs.Math.Nat.{div-div-eq-div-mul}
use Rattle.std.specs.Int.{from_be_bytes, to_be_bytes, w128}

-- a number has one last digit, and one rest
digit : (n high low : ℕ) → n ≡ high * 256 + low → low < 256 → (n / 256 ≡ high) × (n % 256 ≡ low)
digit n high low is small = (omega arith, omega arith)

-- the digit at a place, from what stands at that place and above it
digit_at : (n place high low : ℕ) → n / place ≡ high * 256 + low → low < 256 → (n / (place * 256) ≡ high) × (n / place % 256 ≡ low)
digit_at n place high low is small =
    let d = digit (n / place) high low is small in
    (sym (div-div-eq-div-mul n place 256) ∙ d.0, d.1)

-- a number written by its digits has those
digits : (n b15 b14 b13 b12 b11 b10 b9 b8 b7 b6 b5 b4 b3 b2 b1 b0 : ℕ) → n ≡ ((((((((((((((b15 * 256 + b14) * 256 + b13) * 256 + b12) * 256 + b11) * 256 + b10) * 256 + b9) * 256 + b8) * 256 + b7) * 256 + b6) * 256 + b5) * 256 + b4) * 256 + b3) * 256 + b2) * 256 + b1) * 256 + b0
    → b15 < 256 → b14 < 256 → b13 < 256 → b12 < 256 → b11 < 256 → b10 < 256 → b9 < 256 → b8 < 256 → b7 < 256 → b6 < 256 → b5 < 256 → b4 < 256 → b3 < 256 → b2 < 256 → b1 < 256 → b0 < 256
    → (n / 1329227995784915872903807060280344576 % 256) ∷ (n / 5192296858534827628530496329220096 % 256) ∷ (n / 20282409603651670423947251286016 % 256) ∷ (n / 79228162514264337593543950336 % 256) ∷ (n / 309485009821345068724781056 % 256) ∷ (n / 1208925819614629174706176 % 256) ∷ (n / 4722366482869645213696 % 256) ∷ (n / 18446744073709551616 % 256) ∷ (n / 72057594037927936 % 256) ∷ (n / 281474976710656 % 256) ∷ (n / 1099511627776 % 256) ∷ (n / 4294967296 % 256) ∷ (n / 16777216 % 256) ∷ (n / 65536 % 256) ∷ (n / 256 % 256) ∷ (n % 256) ∷ [] ≡ b15 ∷ b14 ∷ b13 ∷ b12 ∷ b11 ∷ b10 ∷ b9 ∷ b8 ∷ b7 ∷ b6 ∷ b5 ∷ b4 ∷ b3 ∷ b2 ∷ b1 ∷ b0 ∷ []
digits n b15 b14 b13 b12 b11 b10 b9 b8 b7 b6 b5 b4 b3 b2 b1 b0 is s15 s14 s13 s12 s11 s10 s9 s8 s7 s6 s5 s4 s3 s2 s1 s0 =
    let d0 = digit n ((((((((((((((b15 * 256 + b14) * 256 + b13) * 256 + b12) * 256 + b11) * 256 + b10) * 256 + b9) * 256 + b8) * 256 + b7) * 256 + b6) * 256 + b5) * 256 + b4) * 256 + b3) * 256 + b2) * 256 + b1) b0 is s0 in
    let d1 = digit_at n 256 (((((((((((((b15 * 256 + b14) * 256 + b13) * 256 + b12) * 256 + b11) * 256 + b10) * 256 + b9) * 256 + b8) * 256 + b7) * 256 + b6) * 256 + b5) * 256 + b4) * 256 + b3) * 256 + b2) b1 d0.0 s1 in
    let d2 = digit_at n 65536 ((((((((((((b15 * 256 + b14) * 256 + b13) * 256 + b12) * 256 + b11) * 256 + b10) * 256 + b9) * 256 + b8) * 256 + b7) * 256 + b6) * 256 + b5) * 256 + b4) * 256 + b3) b2 d1.0 s2 in
    let d3 = digit_at n 16777216 (((((((((((b15 * 256 + b14) * 256 + b13) * 256 + b12) * 256 + b11) * 256 + b10) * 256 + b9) * 256 + b8) * 256 + b7) * 256 + b6) * 256 + b5) * 256 + b4) b3 d2.0 s3 in
    let d4 = digit_at n 4294967296 ((((((((((b15 * 256 + b14) * 256 + b13) * 256 + b12) * 256 + b11) * 256 + b10) * 256 + b9) * 256 + b8) * 256 + b7) * 256 + b6) * 256 + b5) b4 d3.0 s4 in
    let d5 = digit_at n 1099511627776 (((((((((b15 * 256 + b14) * 256 + b13) * 256 + b12) * 256 + b11) * 256 + b10) * 256 + b9) * 256 + b8) * 256 + b7) * 256 + b6) b5 d4.0 s5 in
    let d6 = digit_at n 281474976710656 ((((((((b15 * 256 + b14) * 256 + b13) * 256 + b12) * 256 + b11) * 256 + b10) * 256 + b9) * 256 + b8) * 256 + b7) b6 d5.0 s6 in
    let d7 = digit_at n 72057594037927936 (((((((b15 * 256 + b14) * 256 + b13) * 256 + b12) * 256 + b11) * 256 + b10) * 256 + b9) * 256 + b8) b7 d6.0 s7 in
    let d8 = digit_at n 18446744073709551616 ((((((b15 * 256 + b14) * 256 + b13) * 256 + b12) * 256 + b11) * 256 + b10) * 256 + b9) b8 d7.0 s8 in
    let d9 = digit_at n 4722366482869645213696 (((((b15 * 256 + b14) * 256 + b13) * 256 + b12) * 256 + b11) * 256 + b10) b9 d8.0 s9 in
    let d10 = digit_at n 1208925819614629174706176 ((((b15 * 256 + b14) * 256 + b13) * 256 + b12) * 256 + b11) b10 d9.0 s10 in
    let d11 = digit_at n 309485009821345068724781056 (((b15 * 256 + b14) * 256 + b13) * 256 + b12) b11 d10.0 s11 in
    let d12 = digit_at n 79228162514264337593543950336 ((b15 * 256 + b14) * 256 + b13) b12 d11.0 s12 in
    let d13 = digit_at n 20282409603651670423947251286016 (b15 * 256 + b14) b13 d12.0 s13 in
    let d14 = digit_at n 5192296858534827628530496329220096 b15 b14 d13.0 s14 in
    let d15 = digit_at n 1329227995784915872903807060280344576 0 b15 (d14.0 ∙ omega arith) s15 in
    λ i. d15.1 i ∷ d14.1 i ∷ d13.1 i ∷ d12.1 i ∷ d11.1 i ∷ d10.1 i ∷ d9.1 i ∷ d8.1 i ∷ d7.1 i ∷ d6.1 i ∷ d5.1 i ∷ d4.1 i ∷ d3.1 i ∷ d2.1 i ∷ d1.1 i ∷ d0.1 i ∷ []

-- a list of sixteen is the list of its places
places : (bs : List ℕ) → length bs ≡ 16 → get_or bs 0 0 ∷ get_or bs 1 0 ∷ get_or bs 2 0 ∷ get_or bs 3 0 ∷ get_or bs 4 0 ∷ get_or bs 5 0 ∷ get_or bs 6 0 ∷ get_or bs 7 0 ∷ get_or bs 8 0 ∷ get_or bs 9 0 ∷ get_or bs 10 0 ∷ get_or bs 11 0 ∷ get_or bs 12 0 ∷ get_or bs 13 0 ∷ get_or bs 14 0 ∷ get_or bs 15 0 ∷ [] ≡ bs
places [] size = absurd (omega arith)
places (a ∷ []) size = absurd (omega arith)
places (a ∷ b ∷ []) size = absurd (omega arith)
places (a ∷ b ∷ c ∷ []) size = absurd (omega arith)
places (a ∷ b ∷ c ∷ d ∷ []) size = absurd (omega arith)
places (a ∷ b ∷ c ∷ d ∷ e ∷ []) size = absurd (omega arith)
places (a ∷ b ∷ c ∷ d ∷ e ∷ f ∷ []) size = absurd (omega arith)
places (a ∷ b ∷ c ∷ d ∷ e ∷ f ∷ g ∷ []) size = absurd (omega arith)
places (a ∷ b ∷ c ∷ d ∷ e ∷ f ∷ g ∷ h ∷ []) size = absurd (omega arith)
places (a ∷ b ∷ c ∷ d ∷ e ∷ f ∷ g ∷ h ∷ i ∷ []) size = absurd (omega arith)
places (a ∷ b ∷ c ∷ d ∷ e ∷ f ∷ g ∷ h ∷ i ∷ j ∷ []) size = absurd (omega arith)
places (a ∷ b ∷ c ∷ d ∷ e ∷ f ∷ g ∷ h ∷ i ∷ j ∷ k ∷ []) size = absurd (omega arith)
places (a ∷ b ∷ c ∷ d ∷ e ∷ f ∷ g ∷ h ∷ i ∷ j ∷ k ∷ l ∷ []) size = absurd (omega arith)
places (a ∷ b ∷ c ∷ d ∷ e ∷ f ∷ g ∷ h ∷ i ∷ j ∷ k ∷ l ∷ m ∷ []) size = absurd (omega arith)
places (a ∷ b ∷ c ∷ d ∷ e ∷ f ∷ g ∷ h ∷ i ∷ j ∷ k ∷ l ∷ m ∷ n ∷ []) size = absurd (omega arith)
places (a ∷ b ∷ c ∷ d ∷ e ∷ f ∷ g ∷ h ∷ i ∷ j ∷ k ∷ l ∷ m ∷ n ∷ o ∷ []) size = absurd (omega arith)
places (a ∷ b ∷ c ∷ d ∷ e ∷ f ∷ g ∷ h ∷ i ∷ j ∷ k ∷ l ∷ m ∷ n ∷ o ∷ p ∷ []) size = refl
places (a ∷ b ∷ c ∷ d ∷ e ∷ f ∷ g ∷ h ∷ i ∷ j ∷ k ∷ l ∷ m ∷ n ∷ o ∷ p ∷ q ∷ bs) size = absurd (omega arith)

-- the bytes of the number that was read are those that were read
pub to_be_bytes-from_be_bytes_16 : (bs : List ℕ) → length bs ≡ 16 → ((i : ℕ) → get_or bs i 0 < 256) → to_be_bytes w128 (from_be_bytes w128 bs) ≡ bs
to_be_bytes-from_be_bytes_16 bs size small =
    digits (from_be_bytes w128 bs) (get_or bs 0 0) (get_or bs 1 0) (get_or bs 2 0) (get_or bs 3 0) (get_or bs 4 0) (get_or bs 5 0) (get_or bs 6 0) (get_or bs 7 0) (get_or bs 8 0) (get_or bs 9 0) (get_or bs 10 0) (get_or bs 11 0) (get_or bs 12 0) (get_or bs 13 0) (get_or bs 14 0) (get_or bs 15 0) (omega arith)
    (small 0) (small 1) (small 2) (small 3) (small 4) (small 5) (small 6) (small 7) (small 8) (small 9) (small 10) (small 11) (small 12) (small 13) (small 14) (small 15)
    ∙ places bs size
