use Rattle.std.proofs.Common.{Some, ap, sym, refl, ◌∙◌}
use Rattle.std.proofs.lemmas.Bool.{eq-eqb}
use Rattle.std.proofs.lemmas.Option.{slice_get-get_or, slice_get_past}
use Rattle.std.proofs.lemmas.Result.{on_ok_weaker}
use Rattle.op_model.specs.Marks.{is_key}
use Rattle.op_model.specs.declared.mark.MarkKey.TheVariants as key
use Rattle.span_flatten.specs.Picking.{is_of_key}
use Rattle.span_flatten.specs.Ranking.{has_rank}
use Rattle.span_flatten.proofs.DecidingLemmas.{apart, discussed_with_other}
use Rattle.span_flatten.proofs.RankLemmas.{ranks_with, ranks_with_other}
use Rattle.span_flatten.proofs.deciding.Deciding.begin.Goals as goal

pub returns-in_default-clause-decides : goal.returns-in_default-clause-decides
returns-in_default-clause-decides c = λ set up was.
    let ms = c.args.markings.now in
    let none = slice_get_past ms c.args.i c.in_default.ensures.lookup.3 in
    record {
      strong = ranks_with_other ms set key.Strong (has_rank c.args.self.now.strong) c.args.i (ap (λ o. is_of_key o key.Strong) none) was.strong;
      em = ranks_with_other ms set key.Em (has_rank c.args.self.now.em) c.args.i (ap (λ o. is_of_key o key.Em) none) was.em;
      link = ranks_with_other ms set key.Link (has_rank c.args.self.now.link) c.args.i (ap (λ o. is_of_key o key.Link) none) was.link;
      comments = discussed_with_other c.args.self.now.comments ms set c.args.i up (λ id. ap (λ o. is_of_key o (key.Comment id)) none) was.comments;
    }

pub returns-in-Strong-clause-decides : goal.returns-in-Strong-clause-decides
returns-in-Strong-clause-decides c =
    let ms = c.args.markings.now in
    let m = c.in-Some.marking.now in
    let there = slice_get-get_or ms c.args.i m c.in-Some.ensures.lookup.3.0 ∙ ap Some (sym c.in-Some.ensures.lookup.1) in
    on_ok_weaker c.insert.result (λ put. λ set up was. record {
      strong = ranks_with ms set key.Strong (has_rank c.args.self.now.strong) (has_rank c.insert.new.self) m c.args.i c.of-rank.result there
          (ap (λ k. is_key k key.Strong) c.in-Strong.is) c.of-rank.ensures.id c.of-rank.ensures.before put was.strong;
      em = ranks_with_other ms set key.Em (has_rank c.args.self.now.em) c.args.i (apart ms c.args.i m key.Strong key.Em there c.in-Strong.is refl) was.em;
      link = ranks_with_other ms set key.Link (has_rank c.args.self.now.link) c.args.i (apart ms c.args.i m key.Strong key.Link there c.in-Strong.is refl) was.link;
      comments = discussed_with_other c.args.self.now.comments ms set c.args.i up (λ id. apart ms c.args.i m key.Strong (key.Comment id) there c.in-Strong.is refl)
          was.comments;
    }) c.insert.ensures

pub returns-in-Em-clause-decides : goal.returns-in-Em-clause-decides
returns-in-Em-clause-decides c =
    let ms = c.args.markings.now in
    let m = c.in-Some.marking.now in
    let there = slice_get-get_or ms c.args.i m c.in-Some.ensures.lookup.3.0 ∙ ap Some (sym c.in-Some.ensures.lookup.1) in
    on_ok_weaker c.insert-in-Em.result (λ put. λ set up was. record {
      strong = ranks_with_other ms set key.Strong (has_rank c.args.self.now.strong) c.args.i (apart ms c.args.i m key.Em key.Strong there c.in-Em.is refl) was.strong;
      em = ranks_with ms set key.Em (has_rank c.args.self.now.em) (has_rank c.insert-in-Em.new.self) m c.args.i c.of-rank.result there
          (ap (λ k. is_key k key.Em) c.in-Em.is) c.of-rank.ensures.id c.of-rank.ensures.before put was.em;
      link = ranks_with_other ms set key.Link (has_rank c.args.self.now.link) c.args.i (apart ms c.args.i m key.Em key.Link there c.in-Em.is refl) was.link;
      comments = discussed_with_other c.args.self.now.comments ms set c.args.i up (λ id. apart ms c.args.i m key.Em (key.Comment id) there c.in-Em.is refl)
          was.comments;
    }) c.insert-in-Em.ensures

pub returns-in-Link-clause-decides : goal.returns-in-Link-clause-decides
returns-in-Link-clause-decides c =
    let ms = c.args.markings.now in
    let m = c.in-Some.marking.now in
    let there = slice_get-get_or ms c.args.i m c.in-Some.ensures.lookup.3.0 ∙ ap Some (sym c.in-Some.ensures.lookup.1) in
    on_ok_weaker c.insert-in-Link.result (λ put. λ set up was. record {
      strong = ranks_with_other ms set key.Strong (has_rank c.args.self.now.strong) c.args.i (apart ms c.args.i m key.Link key.Strong there c.in-Link.is refl) was.strong;
      em = ranks_with_other ms set key.Em (has_rank c.args.self.now.em) c.args.i (apart ms c.args.i m key.Link key.Em there c.in-Link.is refl) was.em;
      link = ranks_with ms set key.Link (has_rank c.args.self.now.link) (has_rank c.insert-in-Link.new.self) m c.args.i c.of-rank.result there
          (ap (λ k. is_key k key.Link) c.in-Link.is) c.of-rank.ensures.id c.of-rank.ensures.before put was.link;
      comments = discussed_with_other c.args.self.now.comments ms set c.args.i up (λ id. apart ms c.args.i m key.Link (key.Comment id) there c.in-Link.is refl)
          was.comments;
    }) c.insert-in-Link.ensures

pub returns-in-Comment-clause-decides : goal.returns-in-Comment-clause-decides
returns-in-Comment-clause-decides c =
    let ms = c.args.markings.now in
    let m = c.in-Some.marking.now in
    let there = slice_get-get_or ms c.args.i m c.in-Some.ensures.lookup.3.0 ∙ ap Some (sym c.in-Some.ensures.lookup.1) in
    let is = key.Comment c.in-Comment.id in
    on_ok_weaker c.begin.result (λ put. λ set up was. record {
      strong = ranks_with_other ms set key.Strong (has_rank c.args.self.now.strong) c.args.i (apart ms c.args.i m is key.Strong there c.in-Comment.is refl) was.strong;
      em = ranks_with_other ms set key.Em (has_rank c.args.self.now.em) c.args.i (apart ms c.args.i m is key.Em there c.in-Comment.is refl) was.em;
      link = ranks_with_other ms set key.Link (has_rank c.args.self.now.link) c.args.i (apart ms c.args.i m is key.Link there c.in-Comment.is refl) was.link;
      comments = put set up (ap (λ o. is_of_key o is) there ∙ (ap (λ k. is_key k is) c.in-Comment.is ∙ eq-eqb c.in-Comment.id c.in-Comment.id refl)) was.comments;
    }) c.begin.ensures.discussed
