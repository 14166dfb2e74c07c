use Rattle.em_tree.proofs.Resolving.{no_links, led_few}
use Rattle.em_tree.proofs.laws.law_led.Goals as goal

pub returns-clause-itself : goal.returns-clause-itself
returns-clause-itself c = λ ls none. no_links ls none

pub returns-clause-few : goal.returns-clause-few
returns-clause-few c = λ ls last. led_few ls last
