use Rattle.std.proofs.Common.{◌∙◌, Some, None, ap, bytes_eq, codes, sym}
use Rattle.std.proofs.lemmas.Bool.Decides.{Decides-eqb}
use Rattle.std.proofs.lemmas.Slice.Eq.{strip_suffix_is}
use Rattle.catalog.proofs.Constraints.{key_name_of, no_key_name}
use Rattle.catalog.proofs.validity.is_key_name.Goals as goal

pub returns-in-Some : goal.returns-in-Some
returns-in-Some c =
    let is = strip_suffix_is Decides-eqb c.as_slice.result.now (codes "_pkey") (Some c.in-Some.rest) c.in-Some.ensures.cases in
    c.eq.ensures
    ∙ ap (bytes_eq c.in-Some.rest.now) c.as_slice-in-Some.ensures
    ∙ key_name_of c.args.table.now c.args.name.now c.in-Some.rest.now (sym c.as_slice.ensures ∙ is)

pub returns-in-None : goal.returns-in-None
returns-in-None c =
    let none = strip_suffix_is Decides-eqb c.as_slice.result.now (codes "_pkey") None c.in-None.ensures.cases in
    no_key_name c.args.table.now c.args.name.now (λ front e. none front (c.as_slice.ensures ∙ e))
