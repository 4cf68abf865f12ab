-- No fault of the bytes is out of memory.
use Rattle.std.proofs.Common.{◌≡◌, ◌≢◌, ℕ, zero, suc, ◌+◌, ◌-◌, ◌&&◌, Bool, true, false, cond, ltb, eqb, List, [], ◌∷◌, length, take, drop, Some}
use Rattle.std.proofs.Common.{None, Result, Ok, Err}
use Rattle.std.specs.Int.{Width, w16, w32, w64, w128, byte_len, from_be_bytes, is_in_range}
use Rattle.std.specs.Str.{is_utf8}
use lib.Utf8.{scalar}
use Rattle.change_codec.specs.declared.codec_error.CodecError.{CodecError}
use Rattle.change_codec.specs.declared.codec_error.CodecError.TheVariants as fault
use Rattle.change_codec.specs.declared.format.Format.{Format}
use Rattle.change_codec.specs.declared.content.Kind.{Kind}
use Rattle.change_codec.specs.declared.content.Kind.TheVariants as kind
use Rattle.change_codec.specs.Reading.{◌>>=◌, within, byte_at, number_at, bytes_at, counter_at}
use Rattle.change_codec.specs.Reading.{replica_at, id_at, entry_at, entries_at, count_at, deps_at}
use Rattle.change_codec.specs.Reading.{origin_at, scalar_at, url_at, mark_at, key_at, start_at}
use Rattle.change_codec.specs.Reading.{end_at, span_at, kind_named, kind_at, token_at, content_at, body_at, head_at}
use Rattle.change_codec.specs.Reading.{rest_at, op_at}
use Rattle.change_codec.specs.Formats.{has_tokens, longest}
use Rattle.change_codec.specs.Record.{length_at, framed_at, framed, taken}

-- a value, or a fault of the bytes
abbrev pub IsClean : {A : Type 0} → Result A CodecError → Type 0
IsClean (Ok x) = Unit {0}
IsClean (Err e) = e ≢ fault.Memory

pub bind : {A B : Type 0} (r : Result A CodecError) (f : A → Result B CodecError) → IsClean r → ((x : A) → IsClean (f x)) → IsClean (r >>= f)
bind (Ok x) f h k = k x
bind (Err e) f h k = h

pub choice : {A : Type 0} (b : Bool) (r s : Result A CodecError) → IsClean r → IsClean s → IsClean (cond b r s)
choice true r s h k = h
choice false r s h k = k

pub length_fault : fault.Length ≢ fault.Memory
length_fault = λ e. cc

pub kind_fault : fault.Kind ≢ fault.Memory
kind_fault = λ e. cc

pub number_fault : fault.Number ≢ fault.Memory
number_fault = λ e. cc

pub scalar_fault : fault.Scalar ≢ fault.Memory
scalar_fault = λ e. cc

pub utf8_fault : fault.Utf8 ≢ fault.Memory
utf8_fault = λ e. cc

pub order_fault : fault.Order ≢ fault.Memory
order_fault = λ e. cc

pub anchor_fault : fault.Anchor ≢ fault.Memory
anchor_fault = λ e. cc

range : (low high : ℕ) (n : ℕ × List ℕ) → IsClean (within low high n)
range low high n = choice (is_in_range low high n.0) (Ok n) (Err fault.Number) tt number_fault

pub number : (w : Width) (bytes : List ℕ) → IsClean (number_at w bytes)
unfolding number_at
number w bytes = choice (ltb (length bytes) (byte_len w)) (Err fault.Length) (Ok (from_be_bytes w (take (byte_len w) bytes), drop (byte_len w) bytes)) length_fault tt

bytes_clean : (n : ℕ) (bytes : List ℕ) → IsClean (bytes_at n bytes)
unfolding bytes_at
bytes_clean n bytes = choice (ltb (length bytes) n) (Err fault.Length) (Ok (take n bytes, drop n bytes)) length_fault tt

ranged : (w : Width) (low high : ℕ) (bytes : List ℕ) → IsClean (number_at w bytes >>= within low high)
ranged w low high bytes = bind (number_at w bytes) (within low high) (number w bytes) (range low high)

counter : (bytes : List ℕ) → IsClean (counter_at bytes)
unfolding counter_at
counter bytes = ranged w64 1 281474976710655 bytes

replica : (bytes : List ℕ) → IsClean (replica_at bytes)
unfolding replica_at
replica bytes = bind (number_at w128 bytes) (λ n. cond (eqb n.0 0) (Err fault.Number) (Ok n)) (number w128 bytes) (λ n. choice (eqb n.0 0) (Err fault.Number) (Ok n) number_fault tt)

pub id : (bytes : List ℕ) → IsClean (id_at bytes)
unfolding id_at
id bytes = bind (counter_at bytes) _ (counter bytes) (λ c. bind (replica_at c.1) _ (replica c.1) (λ r. tt))

entry : (low : ℕ) (bytes : List ℕ) → IsClean (entry_at low bytes)
unfolding entry_at
entry low bytes =
    bind (replica_at bytes) _ (replica bytes)
    (λ r. bind (cond (ltb low r.0) (Ok r) (Err fault.Order)) _ (choice (ltb low r.0) (Ok r) (Err fault.Order) tt order_fault)
    (λ above. bind (number_at w64 above.1 >>= within 1 16777216) _ (ranged w64 1 16777216 above.1) (λ count. tt)))

entries : (n low : ℕ) (bytes : List ℕ) → IsClean (entries_at n low bytes)
unfolding entries_at
entries zero low bytes = tt
entries (suc n) low bytes = bind (entry_at low bytes) _ (entry low bytes) (λ first. bind (entries_at n first.0.0 first.1) _ (entries n first.0.0 first.1) (λ others. tt))

byte : (bytes : List ℕ) → IsClean (byte_at bytes)
unfolding byte_at
byte [] = length_fault
byte (b ∷ rest) = tt

pub deps : (bytes : List ℕ) → IsClean (deps_at bytes)
unfolding deps_at count_at
deps bytes = bind (byte_at bytes >>= within 0 16) _ (bind (byte_at bytes) (within 0 16) (byte bytes) (range 0 16)) (λ count. entries count.0 0 count.1)

pub origin : (bytes : List ℕ) → IsClean (origin_at bytes)
unfolding origin_at
origin [] = length_fault
origin (zero ∷ rest) = tt
origin (suc zero ∷ rest) = bind (id_at rest) _ (id rest) (λ x. tt)
origin (suc (suc b) ∷ rest) = kind_fault

pub value : (bytes : List ℕ) → IsClean (scalar_at bytes)
unfolding scalar_at
value bytes = bind (number_at w32 bytes) (λ n. cond (scalar n.0) (Ok n) (Err fault.Scalar)) (number w32 bytes) (λ n. choice (scalar n.0) (Ok n) (Err fault.Scalar) tt scalar_fault)

url : (bytes : List ℕ) → IsClean (url_at bytes)
unfolding url_at
url bytes =
    bind (number_at w16 bytes >>= within 1 1024) _ (ranged w16 1 1024 bytes)
    (λ len. bind (bytes_at len.0 len.1) _ (bytes_clean len.0 len.1) (λ text. choice (is_utf8 text.0) (Ok text) (Err fault.Utf8) tt utf8_fault))

mark : (bytes : List ℕ) → IsClean (mark_at bytes)
unfolding mark_at
mark [] = length_fault
mark (zero ∷ rest) = kind_fault
mark (suc zero ∷ rest) = tt
mark (suc (suc zero) ∷ rest) = tt
mark (suc (suc (suc zero)) ∷ rest) = bind (url_at rest) _ (url rest) (λ x. tt)
mark (suc (suc (suc (suc zero))) ∷ rest) = bind (number_at w128 rest) _ (number w128 rest) (λ x. tt)
mark (suc (suc (suc (suc (suc b)))) ∷ rest) = kind_fault

key : (bytes : List ℕ) → IsClean (key_at bytes)
unfolding key_at
key [] = length_fault
key (zero ∷ rest) = kind_fault
key (suc zero ∷ rest) = tt
key (suc (suc zero) ∷ rest) = tt
key (suc (suc (suc zero)) ∷ rest) = tt
key (suc (suc (suc (suc zero))) ∷ rest) = bind (number_at w128 rest) _ (number w128 rest) (λ x. tt)
key (suc (suc (suc (suc (suc b)))) ∷ rest) = kind_fault

start : (bytes : List ℕ) → IsClean (start_at bytes)
unfolding start_at
start [] = length_fault
start (zero ∷ rest) = tt
start (suc zero ∷ rest) = bind (id_at rest) _ (id rest) (λ x. tt)
start (suc (suc zero) ∷ rest) = bind (id_at rest) _ (id rest) (λ x. tt)
start (suc (suc (suc b)) ∷ rest) = anchor_fault

end : (bytes : List ℕ) → IsClean (end_at bytes)
unfolding end_at
end [] = length_fault
end (zero ∷ rest) = anchor_fault
end (suc zero ∷ rest) = bind (id_at rest) _ (id rest) (λ x. tt)
end (suc (suc zero) ∷ rest) = bind (id_at rest) _ (id rest) (λ x. tt)
end (suc (suc (suc zero)) ∷ rest) = tt
end (suc (suc (suc (suc b))) ∷ rest) = anchor_fault

span : (bytes : List ℕ) → IsClean (span_at bytes)
unfolding span_at
span bytes = bind (start_at bytes) _ (start bytes) (λ from. bind (end_at from.1) _ (end from.1) (λ to. tt))

named : (b : ℕ) → IsClean (kind_named b)
unfolding kind_named
named zero = kind_fault
named (suc zero) = tt
named (suc (suc zero)) = tt
named (suc (suc (suc zero))) = tt
named (suc (suc (suc (suc zero)))) = tt
named (suc (suc (suc (suc (suc b))))) = kind_fault

tag : (format : Format) (bytes : List ℕ) → IsClean (kind_at format bytes)
unfolding kind_at
tag format [] = length_fault
tag format (b ∷ rest) =
    choice (ltb 16 b && has_tokens format) (kind_named (b - 16) >>= λ k. Ok ((k, true), rest)) (kind_named b >>= λ k. Ok ((k, false), rest))
    (bind (kind_named (b - 16)) (λ k. Ok ((k, true), rest)) (named (b - 16)) (λ k. tt))
    (bind (kind_named b) (λ k. Ok ((k, false), rest)) (named b) (λ k. tt))

pub token : (has_token : Bool) (bytes : List ℕ) → IsClean (token_at has_token bytes)
unfolding token_at
token false bytes = tt
token true bytes = bind (replica_at bytes) _ (replica bytes) (λ t. tt)

content : (k : Kind) (bytes : List ℕ) → IsClean (content_at k bytes)
unfolding content_at
content kind.Insert bytes = bind (origin_at bytes) _ (origin bytes) (λ o. bind (scalar_at o.1) _ (value o.1) (λ v. tt))
content kind.Remove bytes = bind (id_at bytes) _ (id bytes) (λ x. tt)
content kind.AddMark bytes = bind (mark_at bytes) _ (mark bytes) (λ m. bind (span_at m.1) _ (span m.1) (λ s. tt))
content kind.RemoveMark bytes = bind (key_at bytes) _ (key bytes) (λ m. bind (span_at m.1) _ (span m.1) (λ s. tt))

body : (k : Kind) (bytes : List ℕ) → IsClean (body_at k bytes)
unfolding body_at
body k bytes = bind (content_at k bytes) _ (content k bytes) (λ c. choice (eqb (length c.1) 0) (Ok c.0) (Err fault.Length) tt length_fault)

head : (format : Format) (bytes : List ℕ) → IsClean (head_at format bytes)
unfolding head_at
head format bytes = bind (kind_at format bytes) _ (tag format bytes) (λ k. bind (number_at w32 k.1) _ (number w32 k.1) (λ d. bind (id_at d.1) _ (id d.1) (λ i. tt)))

remainder : (has_token : Bool) (k : Kind) (bytes : List ℕ) → IsClean (rest_at has_token k bytes)
remainder has_token k bytes = bind (token_at has_token bytes) _ (token has_token bytes) (λ t. bind (body_at k t.1) _ (body k t.1) (λ b. tt))

operation : (format : Format) (bytes : List ℕ) → IsClean (op_at format bytes)
unfolding op_at
operation format bytes =
    bind (head_at format bytes) _ (head format bytes)
    (λ h. bind (deps_at h.1) _ (deps h.1) (λ d. bind (rest_at h.0.has_token h.0.kind d.1) _ (remainder h.0.has_token h.0.kind d.1) (λ x. tt)))

-- what is read from a body without running out of memory is so read from its record
pub framed_clean : {A : Type 0} (read : List ℕ → Result A CodecError) (format : Format) (bytes : List ℕ) → ((body : List ℕ) → IsClean (read body)) → IsClean (framed read format bytes)
framed_clean read format bytes clean =
    let len = length_at bytes in
    let rest = drop 4 bytes in
    choice (ltb (length bytes) 4) (Ok None) (framed_at read format len rest) tt
    (choice (is_in_range 33 (longest format) len) (cond (ltb (length rest) len) (Ok None) (read (take len rest) >>= λ x. Ok (Some (x, 4 + len)))) (Err fault.Length)
    (choice (ltb (length rest) len) (Ok None) (read (take len rest) >>= λ x. Ok (Some (x, 4 + len))) tt (bind (read (take len rest)) (λ x. Ok (Some (x, 4 + len))) (clean (take len rest)) (λ x. tt)))
    length_fault)

taken_clean : (format : Format) (bytes : List ℕ) → IsClean (taken format bytes)
unfolding taken
taken_clean format bytes = framed_clean (op_at format) format bytes (operation format)

pub no_memory_of : {A : Type 0} (r : Result A CodecError) → IsClean r → r ≡ Err fault.Memory → ⊥
no_memory_of (Ok x) h e = cc
no_memory_of (Err d) h e = let same : d ≡ fault.Memory = cc in h same

-- what is read is never out of memory
pub no_memory : (format : Format) (bytes : List ℕ) → taken format bytes ≡ Err fault.Memory → ⊥
no_memory format bytes e = no_memory_of (taken format bytes) (taken_clean format bytes) e
