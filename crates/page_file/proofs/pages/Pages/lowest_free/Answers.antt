use Rattle.std.proofs.Common.{◌≡◌, ◌<◌, length, sym, ap, ◌∙◌, arith}
use Rattle.page_file.specs.Gaps.{bottom}
use Rattle.page_file.specs.Index.{used}
use Rattle.page_file.proofs.IndexLemmas.{some_free, lowest_below, lowest_is}
use Rattle.page_file.proofs.pages.Pages.lowest_free.Goals as goal

pub lowest-requires : goal.lowest-requires
lowest-requires c = record {
  some = omega (arith, ap length c.deref.ensures.value, some_free _ c.self.inside.gaps.items c.self.invariant.0 (rw (ap (λ v. length (used v)) c.self.view_is) c.requires.few));
}

some_there : (c : goal.After-lowest) → 0 < length c.self.inside.gaps.items
some_there c = some_free _ c.self.inside.gaps.items c.self.invariant.0 (rw (ap (λ v. length (used v)) c.self.view_is) c.requires.few)

seen : (c : goal.After-lowest) → c.lowest.result ≡ bottom 4294967296 c.self.inside.gaps.items
seen c = c.lowest.ensures ∙ ap (bottom 4294967296) c.deref.ensures.value

pub overflow_cast-result : goal.overflow_cast-result
overflow_cast-result c = record {
  fits = omega (arith, seen c, lowest_below c.self.inside.gaps.items c.self.invariant.0.falling (some_there c));
}

pub returns : goal.returns
returns c = rw (sym (ap used c.self.view_is), seen c) (lowest_is _ c.self.inside.gaps.items c.self.invariant.0 (some_there c))
