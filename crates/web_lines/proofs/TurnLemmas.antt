-- Reads in turn, one more after some.
use Rattle.std.proofs.Common.{◌≡◌, ℕ, List, [], ◌∷◌, ◌++◌, take, Option, Result, Ok, Err, IsErr, refl, sym, ap, ◌∙◌, append_assoc, append-nil}
use Rattle.std.proofs.KnownBytes.{Appends-trans}
use Rattle.tungstenite.proofs.SocketLemmas.{appends-nil}
use Rattle.tungstenite.specs.Socket.{Socket, Reads, Flushed}
use Rattle.tungstenite.specs.declared.error.Error.{Error}
use Rattle.tungstenite.specs.declared.message.Message.{Message}
use Rattle.web_lines.specs.Reading.{Given, lines_read, lines_given, ending_given, last_ending, FoundOpen, ReadsInTurn, Notes, Tells, HandsOn}
use Rattle.web_lines.specs.declared.ending.Ending.{Ending}
use Rattle.web_lines.specs.declared.ending.Ending.TheVariants.{NotYet}
use Rattle.web_lines.specs.declared.message_lines.MessageLines.{MessageLines}

lines_given-push : (given : Given) (one : Result Message Error) → lines_given (given ++ one ∷ []) ≡ lines_given given ++ lines_read one
lines_given-push [] one = append-nil (lines_read one)
lines_given-push (first ∷ given) one =
    ap (λ l. lines_read first ++ l) (lines_given-push given one) ∙ sym (append_assoc (lines_read first) (lines_given given) (lines_read one))

last_ending-push : (ending : Ending) (given : Given) (one : Result Message Error) → last_ending ending (given ++ one ∷ []) ≡ ending_given one
last_ending-push ending [] one = refl
last_ending-push ending (first ∷ given) one = last_ending-push (ending_given first) given one

FoundOpen-push : (ending : Ending) (given : Given) (one : Result Message Error) → FoundOpen ending given → last_ending ending given ≡ NotYet
    → FoundOpen ending (given ++ one ∷ [])
FoundOpen-push ending [] one x e = (e, tt)
FoundOpen-push ending (first ∷ given) one x e = (x.0, FoundOpen-push (ending_given first) given one x.1 e)

module _ {S : Type 0} where
  pub flushed-self : (contents : S → Option (List ℕ)) (a : Socket S) → Flushed contents a a
  flushed-self contents a = ([], refl, appends-nil (contents a.stream), refl, refl)

  pub flushed-then : (contents : S → Option (List ℕ)) (a b c : Socket S) → Flushed contents a b → Flushed contents b c → Flushed contents a c
  flushed-then contents a b c x y = (
    x.0 ++ y.0,
    x.1 ∙ ap (λ l. x.0 ++ l) y.1 ∙ sym (append_assoc x.0 y.0 c.output),
    Appends-trans _ _ _ _ _ x.2 y.2,
    y.3 ∙ x.3,
    y.4 ∙ x.4,
  )

  reads-push : (contents remaining : S → Option (List ℕ)) (a b ready c : Socket S) (given : Given) (one : Result Message Error)
      → ReadsInTurn contents remaining a given b → Flushed contents b ready → ready.output ≡ [] → Reads remaining ready c one
      → ReadsInTurn contents remaining a (given ++ one ∷ []) c
  reads-push contents remaining a b ready c [] one x f o r = (ready, c, rw x at f, o, r, refl)
  reads-push contents remaining a b ready c (first ∷ given) one x f o r =
      (x.0, x.1, x.2, x.3, x.4, reads-push contents remaining x.1 b ready c given one x.5 f o r)

  -- how far a call has come: what is held is what was held, and the lines that came since
  pub record Stands (contents remaining : S → Option (List ℕ)) (old now : MessageLines S) : Type 0 where
    pub given : Given
    pub last : Socket S
    pub reads : ReadsInTurn contents remaining old.socket given last
    pub lines : old.held ++ lines_given given ≡ now.held
    pub ending : now.ending ≡ last_ending old.ending given
    pub found : FoundOpen old.ending given
    pub flushed : Flushed contents last now.socket

  -- what is sent before a read
  pub record Settles (contents : S → Option (List ℕ)) (old new : MessageLines S) : Type 0 where
    pub held : new.held ≡ old.held
    pub ending : new.ending ≡ old.ending
    pub flushed : old.ending ≡ NotYet → Flushed contents old.socket new.socket

  -- nothing came
  pub stands-still : (contents remaining : S → Option (List ℕ)) (a : MessageLines S) → Stands contents remaining a a
  stands-still contents remaining a = record {
    given = [];
    last = a.socket;
    reads = refl;
    lines = append-nil a.held;
    ending = refl;
    found = tt;
    flushed = flushed-self contents a.socket;
  }

  -- one more read was noted
  pub stands-read : (contents remaining : S → Option (List ℕ)) (a b c d : MessageLines S) → Stands contents remaining a b → Settles contents b c
      → c.ending ≡ NotYet → c.socket.output ≡ [] → c.held ≡ [] → Notes remaining c d → Stands contents remaining a d
  stands-read contents remaining a b c d h s o e z n = record {
    given = h.given ++ n.given ∷ [];
    last = d.socket;
    reads =
        reads-push contents remaining a.socket h.last c.socket d.socket h.given n.given h.reads
        (flushed-then contents h.last b.socket c.socket h.flushed (s.flushed (sym s.ending ∙ o))) e n.reads;
    lines =
        ap (λ l. a.held ++ l) (lines_given-push h.given n.given) ∙ sym (append_assoc a.held (lines_given h.given) (lines_read n.given))
        ∙ ap (λ l. l ++ lines_read n.given) (h.lines ∙ sym s.held ∙ z) ∙ sym n.lines;
    ending = n.ending ∙ sym (last_ending-push a.ending h.given n.given);
    found = FoundOpen-push a.ending h.given n.given h.found (sym h.ending ∙ sym s.ending ∙ o);
    flushed = flushed-self contents d.socket;
  }

  -- the call failed while it sent what was due
  pub fails-settling : {E : Type 0} (contents remaining : S → Option (List ℕ)) (a b c : MessageLines S) (r : Result ℕ E) (piece : List ℕ)
      → Stands contents remaining a b → Settles contents b c → IsErr r → HandsOn contents remaining a c r piece
  fails-settling contents remaining a b c (Ok count) piece h s f = absurd (cc f)
  fails-settling contents remaining a b c (Err e) piece h s f = record {
    brings = record {
      given = h.given;
      last = h.last;
      reads = h.reads;
      found = h.found;
      lines = h.lines ∙ sym s.held;
      ending = s.ending ∙ h.ending;
      goes_on = λ o. flushed-then contents h.last b.socket c.socket h.flushed (s.flushed (sym s.ending ∙ o));
    };
    tells = tt;
  }

  -- the call failed while it read
  pub fails-reading : {E : Type 0} (contents remaining : S → Option (List ℕ)) (a b : MessageLines S) (r : Result ℕ E) (piece : List ℕ)
      → Stands contents remaining a b → IsErr r → HandsOn contents remaining a b r piece
  fails-reading contents remaining a b (Ok count) piece h f = absurd (cc f)
  fails-reading contents remaining a b (Err e) piece h f = record {
    brings = record {
      given = h.given;
      last = h.last;
      reads = h.reads;
      found = h.found;
      lines = h.lines;
      ending = h.ending;
      goes_on = λ o. h.flushed;
    };
    tells = tt;
  }

  -- bytes were handed on of what is held
  pub hands-out : {E : Type 0} (contents remaining : S → Option (List ℕ)) (a b c d : MessageLines S) (count : ℕ) (piece : List ℕ)
      → Stands contents remaining a b → Settles contents b c → Tells contents b.ending b.socket c.socket
      → d.socket ≡ c.socket → d.ending ≡ c.ending → c.held ≡ take count piece ++ d.held → HandsOn {E = E} contents remaining a d (Ok count) piece
  hands-out contents remaining a b c d count piece h s t k n e = record {
    brings = record {
      given = h.given;
      last = h.last;
      reads = h.reads;
      found = h.found;
      lines = h.lines ∙ sym s.held ∙ e;
      ending = n ∙ s.ending ∙ h.ending;
      goes_on = λ o. rw k (flushed-then contents h.last b.socket c.socket h.flushed (s.flushed (sym s.ending ∙ sym n ∙ o)));
    };
    tells = (b.socket, h.flushed, rw (n, s.ending, k) t);
  }

  -- of an open connection nothing waits then
  pub tells-open : (contents : S → Option (List ℕ)) (ending : Ending) (a b : Socket S) → ending ≡ NotYet → Tells contents ending a b → b.output ≡ []
  tells-open contents ending a b e t =
      let told : Tells contents NotYet a b = rw e at t in
      told.1
