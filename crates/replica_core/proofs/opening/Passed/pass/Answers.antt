use Rattle.std.proofs.Common.{◌+◌, ◌++◌, ◌∷◌, [], refl, sym, ap, ◌∙◌}
use Rattle.op_model.specs.Causality.{MayFollow}
use Rattle.op_model.specs.Spans.{with_number}
use Rattle.op_model.proofs.RisingLemmas.{documents_up}
use Rattle.model_laws.proofs.Closed.{follows_fits}
use Rattle.model_laws.proofs.Ready.{documents-push}
use Rattle.replica_core.proofs.FollowLemmas.{AreCounted-push, record_fits}
use Rattle.replica_core.proofs.LimitLemmas.{never_overfull}
use Rattle.replica_core.proofs.RevLemmas.{rev_told}
use Rattle.replica_core.proofs.TokenLemmas.{place_behind}
use Rattle.replica_core.proofs.opening.Passed.pass.Goals as goal

pub open-requires-clause-rising : goal.open-requires-clause-rising
open-requires-clause-rising c = rw c.requires.numbers (documents_up c.args.others.now)

pub open-requires-clause-drafts : goal.open-requires-clause-drafts
open-requires-clause-drafts c = c.requires.drafts.numbers

pub may_take-requires : goal.may_take-requires
may_take-requires c = record {
  counted = c.requires.counted;
  numbers = c.in_ok-at.ensures.numbers ∙ ap (with_number c.args.op.now.doc) c.requires.numbers;
  drafts = c.in_ok-at.ensures.drafts c.args.others.now c.requires.numbers c.requires.drafts;
  place = c.in_ok-at.ensures.place;
}

pub count-requires-clause-counts : goal.count-requires-clause-counts
count-requires-clause-counts c = λ full.
    let follows : MayFollow c.args.others.now c.args.op.now = c.if-not-may_take.ensures.0 refl in
    never_overfull c.args.others.now c.args.op.now c.args.self.now.clock follows c.requires.counted.clock full

pub count-requires-clause-small : goal.count-requires-clause-small
count-requires-clause-small c =
    let follows : MayFollow c.args.others.now c.args.op.now = c.if-not-may_take.ensures.0 refl in
    record_fits c.args.others.now c.args.op.now c.args.self.now.index.stream follows c.requires.counted.index.stream

pub apply-requires-clause-there : goal.apply-requires-clause-there
apply-requires-clause-there c =
    let drafts = c.in_ok-at.ensures.drafts c.args.others.now c.requires.numbers c.requires.drafts in
    let pushed = documents-push c.args.others.now c.args.op.now in (
      rw (drafts.numbers, c.in_ok-at.ensures.numbers, c.requires.numbers, ← pushed) (documents_up (c.args.others.now ++ c.args.op.now ∷ [])),
      rw drafts.numbers c.in_ok-at.ensures.place,
    )

pub apply-requires-clause-may_come : goal.apply-requires-clause-may_come
apply-requires-clause-may_come c =
    let follows : MayFollow c.args.others.now c.args.op.now = c.if-not-may_take.ensures.0 refl in
    let drafts = c.in_ok-at.ensures.drafts c.args.others.now c.requires.numbers c.requires.drafts in
    (c.args.others.now, drafts.drafts, follows_fits c.args.others.now c.args.op.now.doc c.args.op.now follows refl)

pub overflow_cast-place-2 : goal.overflow_cast-place-2
overflow_cast-place-2 c =
    let follows : MayFollow c.args.others.now c.args.op.now = c.if-not-may_take.ensures.0 refl in
    let drafts = c.in_ok-at.ensures.drafts c.args.others.now c.requires.numbers c.requires.drafts in
    let revs = rev_told c.args.others.now c.args.op.now c.in_ok-rev.rev c.requires.counted.closed follows
    (λ fits few. c.in_ok-rev.ensures.rev c.args.others.now drafts.drafts fits few) in
    record { fits = revs.1 }

pub returns-clause-passed : goal.returns-clause-passed
returns-clause-passed c =
    let follows : MayFollow c.args.others.now c.args.op.now = c.if-not-may_take.ensures.0 refl in
    let fits = follows_fits c.args.others.now c.args.op.now.doc c.args.op.now follows refl in
    let drafts = c.in_ok-at.ensures.drafts c.args.others.now c.requires.numbers c.requires.drafts in
    let revs = rev_told c.args.others.now c.args.op.now c.in_ok-rev.rev c.requires.counted.closed follows
    (λ fits few. c.in_ok-rev.ensures.rev c.args.others.now drafts.drafts fits few) in
    record {
      counted = rw c.in_ok-count.ensures.clock
          (AreCounted-push c.args.others.now c.args.self.now.clock c.args.self.now.index c.count.new.index c.args.op.now c.requires.counted follows
          (λ is. c.in_ok-count.ensures.index c.args.others.now is (sym c.len-behind.ensures)));
      numbers =
          c.in_ok-at.ensures.numbers
          ∙ (ap (with_number c.args.op.now.doc) c.requires.numbers ∙ sym (documents-push c.args.others.now c.args.op.now));
      drafts = record {
        numbers = c.in_ok-rev.ensures.numbers ∙ drafts.numbers;
        drafts = c.in_ok-rev.ensures.drafts c.args.others.now drafts.drafts fits;
      };
      tokens = c.in_ok-count-2.ensures.counted c.args.others.now
          (sym (place_behind c.args.others.now c.args.op.now _ _ (ap (λ n. n + 1) c.len-behind.ensures) revs.0)) c.requires.tokens;
    }
