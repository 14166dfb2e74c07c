use Rattle.std.proofs.Common.{◌≡◌, ◌∙◌, ap, subst, sym, List, map, option_and_then, unwrap_or}
use Rattle.std.specs.Borrow.{Bor}
use Rattle.std.specs.List.{filter, filter_map}
use Rattle.clap.specs.Words.{found_of, rows_of}
use Rattle.em_cmdline.specs.declared.order.HistoryMode.TheVariants.{Merge}
use Rattle.em_cmdline.specs.Words.{HasNames, HasSource, assignment, is_goal, other_words, positive}
use Rattle.em_cmdline.proofs.Found.{Str, value_or}
use Rattle.em_cmdline.proofs.Sound.{has_names, has_source}
use Rattle.em_cmdline.proofs.read.order.Goals as goal

pub returns-clause-value : goal.returns-clause-value
returns-clause-value c =
    let rows = rows_of (found_of c.args.found.now) in
    let words : map (λ (s : Str). s.now) c.unwrap_or-words.result.now ≡ other_words rows =
    value_or (λ (ws : Bor (List Str)). map (λ s. s.now) ws.now) c.others.result _ c.unwrap_or-words.result _ c.others.ensures c.unwrap_or-words.ensures in
    let dir = value_or (λ (s : Str). s.now) c.value-3.result _ c.unwrap_or.result _ c.value-3.ensures c.unwrap_or.ensures in
    λ i. record {
      image = (c.in_ok-own.ensures ∙ c.value.ensures) i;
      makefile = (c.in_ok-own-2.ensures ∙ c.value-2.ensures) i;
      dir = (c.in_ok-from_slice.ensures ∙ c.as_bytes.ensures.value ∙ dir) i;
      keep_going = c.is_set.ensures i;
      dry = c.is_set-2.ensures i;
      question = c.is_set-3.ensures i;
      silent = c.is_set-4.ensures i;
      ignore = c.is_set-5.ensures i;
      always = c.is_set-6.ensures i;
      workers = (c.unwrap_or-2.ensures ∙ ap (λ n. unwrap_or n 1) (c.count.ensures.value ∙ ap (option_and_then (positive 64)) c.value-4.ensures)) i;
      fuel = (c.unwrap_or-3.ensures ∙ ap (λ n. unwrap_or n 1000000) (c.count-2.ensures.value ∙ ap (option_and_then (positive 1000000)) c.value-5.ensures)) i;
      history = (c.in_ok-own-3.ensures ∙ c.value-6.ensures) i;
      mode = (c.unwrap_or-4.ensures ∙ ap (λ m. unwrap_or m Merge) c.mode.ensures) i;
      report = (c.in_ok-own-4.ensures ∙ c.value-7.ensures) i;
      generate = c.size.ensures.value i;
      explain = (c.in_ok-own-5.ensures ∙ c.value-8.ensures) i;
      agents = (c.unwrap_or-5.ensures ∙ ap (λ n. unwrap_or n 1) (c.count-3.ensures.value ∙ ap (option_and_then (positive 64)) c.value-9.ensures)) i;
      goals = (c.in_ok-goals.ensures ∙ ap (filter is_goal) words) i;
      assigned = (c.in_ok-assigned.ensures ∙ ap (filter_map assignment) words) i;
    }

pub returns-clause-source : goal.returns-clause-source
returns-clause-source c = subst HasSource (sym (returns-clause-value c)) (has_source (rows_of (found_of c.args.found.now)) c.requires)

pub returns-clause-names : goal.returns-clause-names
returns-clause-names c = subst HasNames (sym (returns-clause-value c)) (has_names (rows_of (found_of c.args.found.now)) c.requires)
