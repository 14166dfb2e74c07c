use Rattle.std.proofs.Common.{◌≡◌, ◌∙◌, ap, false, List, map, None}
use Rattle.std.specs.Borrow.{Bor}
use Rattle.std.specs.List.{filter, filter_map}
use Rattle.clap.specs.Words.{found_of, rows_of}
use Rattle.em_cmdline.specs.declared.order.HistoryMode.TheVariants.{Merge}
use Rattle.em_cmdline.specs.Words.{assignment, is_goal, other_words}
use Rattle.em_cmdline.proofs.Found.{Str, value_or}
use Rattle.em_cmdline.proofs.sub.order_from.Goals as goal

pub returns : goal.returns
returns c =
    let rows = rows_of (found_of c.args.found.now) in
    let words : map (λ (s : Str). s.now) c.unwrap_or-words.result.now ≡ other_words rows =
    value_or (λ (ws : Bor (List Str)). map (λ s. s.now) ws.now) c.others.result _ c.unwrap_or-words.result _ c.others.ensures c.unwrap_or-words.ensures in
    let dir = value_or (λ (s : Str). s.now) c.value-2.result _ c.unwrap_or.result _ c.value-2.ensures c.unwrap_or.ensures in
    λ i. record {
      image = None;
      makefile = (c.in_ok-own.ensures ∙ c.value.ensures) i;
      dir = (c.in_ok-from_slice.ensures ∙ c.as_bytes.ensures.value ∙ dir) i;
      keep_going = c.is_set.ensures i;
      dry = false;
      question = false;
      silent = c.is_set-2.ensures i;
      ignore = c.is_set-3.ensures i;
      always = c.is_set-4.ensures i;
      workers = 1;
      fuel = 1000000;
      history = None;
      mode = Merge;
      report = None;
      generate = None;
      explain = None;
      agents = 1;
      goals = (c.in_ok-goals.ensures ∙ ap (filter is_goal) words) i;
      assigned = (c.in_ok-assigned.ensures ∙ ap (filter_map assignment) words) i;
    }
