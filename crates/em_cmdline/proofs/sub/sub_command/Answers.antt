use Rattle.std.proofs.Common.{◌≡◌, false, rules}
use Rattle.std.proofs.lemmas.Result.{IfOk-weaker}
use Rattle.clap.specs.Words.{rule_of}
use Rattle.em_cmdline.specs.Words.{others_rule}
use Rattle.em_cmdline.specs.SubWords.{sub_app}
use Rattle.em_cmdline.proofs.Clap.{added, added_long, added_short, bare}
use Rattle.em_cmdline.proofs.sub.sub_command.Goals as goal

pub returns : goal.returns
unfolding sub_app
returns c =
    let s0 = bare _ c.no_binary_name.result c.disable_help_flag.result c.disable_version_flag.result _ c.no_binary_name.ensures c.disable_help_flag.ensures c.disable_version_flag.ensures c.new.ensures.app in
    let s1 = added_short c.valued.result c.in_ok-arg.ensures s0 c.short.ensures c.valued.ensures.rule c.valued.ensures.local in
    let s2 = added_short c.valued-2.result c.in_ok-arg-2.ensures s1 c.short-2.ensures c.valued-2.ensures.rule c.valued-2.ensures.local in
    let s3 = added_short c.flag.result c.in_ok-arg-3.ensures s2 c.short-3.ensures c.flag.ensures.rule c.flag.ensures.local in
    let s4 = added_short c.flag-2.result c.in_ok-arg-4.ensures s3 c.short-4.ensures c.flag-2.ensures.rule c.flag-2.ensures.local in
    let s5 = added_short c.flag-3.result c.in_ok-arg-5.ensures s4 c.short-5.ensures c.flag-3.ensures.rule c.flag-3.ensures.local in
    let s6 = added_short c.flag-4.result c.in_ok-arg-6.ensures s5 c.short-6.ensures c.flag-4.ensures.rule c.flag-4.ensures.local in
    let s7 = added_short c.valued-3.result c.in_ok-arg-7.ensures s6 c.short-7.ensures c.valued-3.ensures.rule c.valued-3.ensures.local in
    let s8 = added_long c.flag-5.result c.in_ok-arg-8.ensures s7 c.long.ensures c.flag-5.ensures.rule c.flag-5.ensures.local in
    let others : rule_of c.action.result ≡ others_rule = search rules in
    let local : c.action.result.global ≡ false = search rules in
    IfOk-weaker c.arg-9.result _ _ (λ r adds. added adds s8 others local) c.arg-9.ensures
