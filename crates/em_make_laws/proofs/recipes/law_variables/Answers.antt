use Rattle.em_make_laws.proofs.Recipe.{target_read, first_read, no_first_read, once_read, all_read, newer_read, order_read, stem_read}
use Rattle.em_make_laws.proofs.recipes.law_variables.Goals as goal

pub returns : goal.returns
returns c =
    let own = c.law_automatic.ensures.own in
    record {
      target = target_read own;
      first = first_read own;
      no_first = no_first_read own;
      each_once = once_read own;
      all = all_read own;
      newer = newer_read own;
      order = order_read own;
      stem = stem_read own;
    }
