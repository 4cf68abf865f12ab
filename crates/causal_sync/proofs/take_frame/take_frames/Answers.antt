use Rattle.std.proofs.Common.{◌≡◌, ◌++◌, ◌∷◌, [], ◌&&◌, false, drop, rules, sym, ◌∙◌, arith}
use Rattle.causal_sync.specs.Frames.{frame_bytes, frames_bytes, is_over, IsFrame}
use Rattle.causal_sync.specs.Hearing.{is_none}
use Rattle.causal_sync.proofs.Hearings.{are_join, are_one, one_more, over_more, some_more, rest_behind, shorter}
use Rattle.causal_sync.proofs.take_frame.take_frames.Goals as goal

pub loop-found-smaller : goal.loop-found-smaller
loop-found-smaller c =
    let at = c.loop-found in
    let found : c.split_at.result.1.now ≡ frame_bytes c.in-Ok-Some.heard ++ c.in-Ok-Some.rest.now = search rules in
    let is : drop at.found.used c.args.bytes.now ≡ frame_bytes c.in-Ok-Some.heard ++ c.in-Ok-Some.rest.now = sym c.split_at.ensures.back ∙ found in
    shorter at.found.used c.args.bytes.now c.in-Ok-Some.rest.now c.in-Ok-Some.heard at.invariant.within is

pub loop-found-preserved : goal.loop-found-preserved
loop-found-preserved c =
    let at = c.loop-found in
    let frames = at.found.frames.items in
    let heard = c.in-Ok-Some.heard in
    let rest = c.in-Ok-Some.rest.now in
    let found : c.split_at.result.1.now ≡ frame_bytes heard ++ rest = search rules in
    let is : drop at.found.used c.args.bytes.now ≡ frame_bytes heard ++ rest = sym c.split_at.ensures.back ∙ found in
    let fits : IsFrame c.args.own at.found.is_first heard = search rules in
    let pushed : c.push_back.new.self.items ≡ frames ++ heard ∷ [] = search rules in
    let going : is_over frames ≡ false = sym at.invariant.over ∙ c.loop-found-test.true in
    let all : frames_bytes (frames ++ heard ∷ []) ++ rest ≡ c.args.bytes.now = one_more frames heard (drop at.found.used c.args.bytes.now) c.args.bytes.now rest at.invariant.all is in
    let placed : IsFrame c.args.own (is_none frames && c.args.is_first) heard = rw (← at.invariant.next) fits in
    record {
      all = rw (pushed, rest_behind (frames_bytes (frames ++ heard ∷ [])) rest c.args.bytes.now all) all;
      are = rw pushed (are_join c.args.own c.args.is_first frames (heard ∷ []) at.invariant.are going (are_one c.args.own (is_none frames && c.args.is_first) heard placed));
      over = rw pushed (c.is_bye.ensures ∙ over_more frames heard going);
      next = rw pushed (some_more frames heard c.args.is_first);
      clean = at.invariant.clean;
      within = omega arith;
    }
