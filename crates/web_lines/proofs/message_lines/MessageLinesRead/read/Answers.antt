use Rattle.std.proofs.Common.{rules, ◌≡◌, [], refl, sym, ◌∙◌}
use Rattle.web_lines.specs.declared.ending.Ending.TheVariants.{NotYet}
use Rattle.web_lines.proofs.TurnLemmas.{Settles, stands-still, stands-read, fails-settling, fails-reading, hands-out, tells-open}
use Rattle.web_lines.proofs.message_lines.MessageLinesRead.read.Goals as goal

pub loop-init : goal.loop-init
loop-init g c = stands-still _ _ _

pub returns-in_err-settle-clause-handed : goal.returns-in_err-settle-clause-handed
returns-in_err-settle-clause-handed g c =
    let s = c.settle.ensures in
    let settled : Settles g.S.Write.contents c.loop.self c.settle.new.self = record { held = s.held; ending = s.ending; flushed = s.flushed } in
    fails-settling _ _ _ _ _ c.from_residual.result c.loop.buf c.loop.invariant settled c.from_residual.ensures.0

pub returns-then-not-is_empty-clause-handed : goal.returns-then-not-is_empty-clause-handed
returns-then-not-is_empty-clause-handed g c =
    let s = c.settle.ensures in
    let settled : Settles g.S.Write.contents c.loop.self c.settle.new.self = record { held = s.held; ending = s.ending; flushed = s.flushed } in
    hands-out _ _ _ _ c.settle.new.self _ _ _ c.loop.invariant settled c.in_ok-settle.ensures.tells refl refl c.hand_on.ensures.bytes

pub returns-in_err-next-clause-handed : goal.returns-in_err-next-clause-handed
returns-in_err-next-clause-handed g c =
    let s = c.settle.ensures in
    let settled : Settles g.S.Write.contents c.loop.self c.settle.new.self = record { held = s.held; ending = s.ending; flushed = s.flushed } in
    let is_open : c.settle.new.self.ending ≡ NotYet = search rules in
    let none : c.settle.new.self.held ≡ [] = search rules in
    fails-reading _ _ _ _ c.from_residual-in_err-next.result c.loop.buf
    (stands-read _ _ _ _ c.settle.new.self _ c.loop.invariant settled is_open
    (tells-open g.S.Write.contents c.loop.self.ending c.loop.self.socket c.settle.new.self.socket (sym s.ending ∙ is_open) c.in_ok-settle.ensures.tells) none c.next.ensures)
    c.from_residual-in_err-next.ensures.0

pub loop-preserved : goal.loop-preserved
loop-preserved g c =
    let s = c.settle.ensures in
    let settled : Settles g.S.Write.contents c.loop.self c.settle.new.self = record { held = s.held; ending = s.ending; flushed = s.flushed } in
    let is_open : c.settle.new.self.ending ≡ NotYet = search rules in
    let none : c.settle.new.self.held ≡ [] = search rules in
    stands-read _ _ _ _ c.settle.new.self _ c.loop.invariant settled is_open
    (tells-open g.S.Write.contents c.loop.self.ending c.loop.self.socket c.settle.new.self.socket (sym s.ending ∙ is_open) c.in_ok-settle.ensures.tells) none c.next.ensures
