use Rattle.std.proofs.Common.{◌≡◌, false, rules}
use Rattle.std.proofs.lemmas.Result.{IfOk-weaker}
use Rattle.clap.specs.Words.{rule_of}
use Rattle.em_cmdline.specs.Words.{order_app, others_rule}
use Rattle.em_cmdline.proofs.Clap.{added, added_long, added_short, bare}
use Rattle.em_cmdline.proofs.command.command.Goals as goal

pub returns : goal.returns
unfolding order_app
returns c =
    let s0 = bare _ c.no_binary_name.result c.disable_help_flag.result c.disable_version_flag.result _ c.no_binary_name.ensures c.disable_help_flag.ensures c.disable_version_flag.ensures c.new.ensures.app in
    let s1 = added_short c.valued.result c.in_ok-arg.ensures s0 c.short.ensures c.valued.ensures.rule c.valued.ensures.local in
    let s2 = added_short c.valued-2.result c.in_ok-arg-2.ensures s1 c.short-2.ensures c.valued-2.ensures.rule c.valued-2.ensures.local in
    let s3 = added_short c.valued-3.result c.in_ok-arg-3.ensures s2 c.short-3.ensures c.valued-3.ensures.rule c.valued-3.ensures.local in
    let s4 = added_short c.flag.result c.in_ok-arg-4.ensures s3 c.short-4.ensures c.flag.ensures.rule c.flag.ensures.local in
    let s5 = added_short c.flag-2.result c.in_ok-arg-5.ensures s4 c.short-5.ensures c.flag-2.ensures.rule c.flag-2.ensures.local in
    let s6 = added_short c.flag-3.result c.in_ok-arg-6.ensures s5 c.short-6.ensures c.flag-3.ensures.rule c.flag-3.ensures.local in
    let s7 = added_short c.flag-4.result c.in_ok-arg-7.ensures s6 c.short-7.ensures c.flag-4.ensures.rule c.flag-4.ensures.local in
    let s8 = added_short c.flag-5.result c.in_ok-arg-8.ensures s7 c.short-8.ensures c.flag-5.ensures.rule c.flag-5.ensures.local in
    let s9 = added_short c.flag-6.result c.in_ok-arg-9.ensures s8 c.short-9.ensures c.flag-6.ensures.rule c.flag-6.ensures.local in
    let s10 = added_short c.valued-4.result c.in_ok-arg-10.ensures s9 c.short-10.ensures c.valued-4.ensures.rule c.valued-4.ensures.local in
    let s11 = added_long c.valued-5.result c.in_ok-arg-11.ensures s10 c.long.ensures c.valued-5.ensures.rule c.valued-5.ensures.local in
    let s12 = added_long c.valued-6.result c.in_ok-arg-12.ensures s11 c.long-2.ensures c.valued-6.ensures.rule c.valued-6.ensures.local in
    let s13 = added_long c.valued-7.result c.in_ok-arg-13.ensures s12 c.long-3.ensures c.valued-7.ensures.rule c.valued-7.ensures.local in
    let s14 = added_long c.valued-8.result c.in_ok-arg-14.ensures s13 c.long-4.ensures c.valued-8.ensures.rule c.valued-8.ensures.local in
    let s15 = added_long c.valued-9.result c.in_ok-arg-15.ensures s14 c.long-5.ensures c.valued-9.ensures.rule c.valued-9.ensures.local in
    let s16 = added_long c.valued-10.result c.in_ok-arg-16.ensures s15 c.long-6.ensures c.valued-10.ensures.rule c.valued-10.ensures.local in
    let s17 = added_long c.valued-11.result c.in_ok-arg-17.ensures s16 c.long-7.ensures c.valued-11.ensures.rule c.valued-11.ensures.local in
    let others : rule_of c.action.result ≡ others_rule = search rules in
    let local : c.action.result.global ≡ false = search rules in
    IfOk-weaker c.arg-18.result _ _ (λ r adds. added adds s17 others local) c.arg-18.ensures
