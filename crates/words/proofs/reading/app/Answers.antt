use Rattle.std.proofs.Common.{rules, ap, ap₂, refl, true, codes, ◌≡◌, ◌∙◌}
use Rattle.clap.specs.Words.{Rule, app_of, rule_of, with_rule}
use Rattle.clap.specs.Simple.{app_of_fields, on_top}
use Rattle.words.specs.Words as spec
use Rattle.words.proofs.Ranges.{some-of}
use Rattle.words.proofs.reading.app.Goals as goal

pub returns : goal.returns
returns c =
    let name_is : rule_of c.required-name.result ≡ spec.command_rule = search rules in
    let range_is = some-of c.num_args-values.result.num_vals _ c.num_args-values.ensures.1 in
    let range_04 : c.num_args-values.result.num_vals ≡ spec.values_rule.range = range_is ∙ rw (c.new-3.ensures.start, c.new-3.ensures.end) refl in
    let values_is : rule_of c.num_args-values.result ≡ spec.values_rule =
    ap rule_of c.num_args-values.ensures.0 ∙ ap (λ o. record (rule_of c.new-2.result) { range = o }) range_04 ∙ ap (λ (r : Rule). record r { range = spec.values_rule.range }) c.new-2.ensures.rule in
    let batch_is : rule_of c.long-batch.result ≡ spec.option_rule (codes "batch") = search rules in
    let pause_is : rule_of c.long-pause.result ≡ spec.option_rule (codes "pause-at") = search rules in
    let unnamed : app_of c.no_binary_name.result ≡ on_top (λ s. record s { no_binary_name = true }) (app_of c.new-6.result) = ap app_of_fields c.no_binary_name.ensures in
    let helpless : app_of c.disable_help_flag.result ≡ on_top (λ s. record s { disable_help_flag = true }) (app_of c.no_binary_name.result) = ap app_of_fields c.disable_help_flag.ensures in
    let plain : app_of c.disable_version_flag-plain.result ≡ on_top (λ s. record s { disable_version_flag = true }) (app_of c.disable_help_flag.result) = ap app_of_fields c.disable_version_flag-plain.ensures in
    let plain_is : app_of c.disable_version_flag-plain.result ≡ spec.settings = plain ∙ ap (on_top (λ s. record s { disable_version_flag = true })) (helpless ∙ ap (on_top (λ s. record s { disable_help_flag = true })) (unnamed ∙ ap (on_top (λ s. record s { no_binary_name = true })) c.new-6.ensures.app)) in
    let first_is : app_of c.in_ok-first.first ≡ with_rule spec.settings spec.command_rule = c.in_ok-first.ensures.shape (search rules) ∙ ap₂ with_rule plain_is name_is in
    let second_is = c.in_ok-second.ensures.shape (search rules) ∙ ap₂ with_rule first_is values_is in
    let third_is = c.in_ok-third.ensures.shape (search rules) ∙ ap₂ with_rule second_is batch_is in
    c.in_ok-whole.ensures.shape (search rules) ∙ ap₂ with_rule third_is pause_is
