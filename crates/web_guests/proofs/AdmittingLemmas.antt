-- What is said of a head that was judged.
use Rattle.std.proofs.Common.{◌≡◌, ◌∙◌, ℕ, List, [], length, take, map, ap, arith, codes, Option, Result, Ok, Err}
use Rattle.std.specs.Io.KnownBytes.{Consumes, Appends}
use Rattle.std.proofs.lemmas.List.{drop_all}
use Rattle.httparse.specs.declared.spans.HeaderSpan.{HeaderSpan}
use Rattle.httparse.specs.declared.spans.RequestSpans.{RequestSpans}
use Rattle.httparse.specs.Grammar.{RequestHead, ReadsRequest}
use Rattle.httparse.specs.Spans.{IsRequestWithin, IsRequestOf, IsRequestAt, span_bytes, name_and_value}
use Rattle.websocket.specs.declared.handshake.failure.HandshakeError.{HandshakeError}
use Rattle.websocket.specs.Handshake.{Answers, requested_key, response_bytes}
use Rattle.websocket.specs.Headers.{fields_of}
use Rattle.tungstenite.specs.Heads.{IsAccepted}
use Rattle.web_guests.specs.declared.refusal.Refusal.{Refusal}
use Rattle.web_guests.specs.Admitting.{AsksNothing, CameFrom, Judged, field_check}
use Rattle.web_guests.specs.Guests.{origin_in}
use Rattle.web_guests.specs.Stating.{values_of}
use Rattle.web_guests.specs.Causes.{cause_of}

-- what isn't answered asks for nothing, for that cause
pub asks_nothing : (asked : Result (List ℕ) HandshakeError) (error : HandshakeError) (cause : Refusal)
    → Answers (Err error) asked → cause ≡ cause_of error → AsksNothing asked cause
asks_nothing (Ok key) error cause (invalid, is) same = (invalid, same ∙ ap cause_of is)
asks_nothing (Err e) error cause is same = let e_is : error ≡ e = cc in same ∙ ap cause_of e_is

-- the head whose spans were judged
asks_at : (port : ℕ) (named : List (List ℕ)) (bytes key : List ℕ) (spans : List HeaderSpan) (r : RequestSpans) (h : RequestHead)
    → IsRequestAt bytes spans r h → r.len ≡ length bytes
    → field_check port named (fields_of bytes (take r.headers spans)) ≡ Ok tt
    → requested_key (span_bytes bytes r.method) r.version (fields_of bytes (take r.headers spans)) ≡ Ok key
    → ReadsRequest bytes h [] × (field_check port named (map name_and_value h.fields) ≡ Ok tt)
    × (requested_key h.method h.minor (map name_and_value h.fields) ≡ Ok key)
asks_at port named bytes key spans r h at whole may asked = (
  rw (← drop_all r.len bytes (omega (arith, whole))) at.reads,
  rw (← at.fields) may,
  rw (← at.method, ← at.version, ← at.fields) asked,
)

-- what is answered by an accept key is taken by tungstenite too
pub accepted_of : (port : ℕ) (named : List (List ℕ)) (bytes accept : List ℕ) (spans : List HeaderSpan) (r : RequestSpans)
    → IsRequestWithin bytes spans r → IsRequestOf bytes spans r
    → Judged port named (span_bytes bytes r.method) r.version (fields_of bytes (take r.headers spans)) (Ok accept) → IsAccepted bytes
accepted_of port named bytes accept spans r within parsed (may, (key, asked, valid, is)) =
    (r, spans, key, within, asked, valid, parsed)

-- the head was taken and judged, and an answer by its accept key lets its guest in, from the origin that its spans state
pub came_from : {S : Type 0} (remaining contents : S → Option (List ℕ)) (port : ℕ) (named : List (List ℕ)) (old between new : S)
    (bytes accept : List ℕ) (spans : List HeaderSpan) (r : RequestSpans) (origin : Option (List ℕ))
    → IsRequestOf bytes spans r → r.len ≡ length bytes
    → Judged port named (span_bytes bytes r.method) r.version (fields_of bytes (take r.headers spans)) (Ok accept)
    → Consumes (remaining old) (remaining between) bytes
    → Appends (contents between) (contents new) (response_bytes accept [])
    → origin ≡ origin_in named (values_of (fields_of bytes (take r.headers spans)) (codes "Origin"))
    → CameFrom remaining contents port named old new origin
came_from remaining contents port named old between new bytes accept spans r origin (h, at) whole (may, (key, asked, valid, is)) read answered stated =
    let (reads, may_come, asked_too) = asks_at port named bytes key spans r h at whole may asked in
    record {
      came = record {
        bytes = bytes;
        key = key;
        between = between;
        asks = record { head = h; reads = reads; may_come = may_come; asked = asked_too; valid = valid };
        read = read;
        answered = rw (← is) answered;
      };
      stated = rw (← at.fields) stated;
    }
