use Rattle.machine.proofs.laws.laws_below.Goals as goal

pub returns : goal.returns
returns c = record {
  typed = c.typed_values_are_of_their_types.ensures;
  forward = c.made_halves_fit.ensures.forward;
  backward = c.made_halves_fit.ensures.backward;
  forward_carries = c.carried_columns_keep_their_values.ensures.forward;
  backward_carries = c.carried_columns_keep_their_values.ensures.backward;
  order = c.changes_keep_order.ensures;
  valid = c.valid_rows_have_no_cause.ensures;
  schemas = c.planned_schemas_are_well_formed.ensures;
  fates = c.planned_tables_have_fates.ensures.stand;
  all = c.planned_tables_have_fates.ensures.all;
  numbered = c.created_tables_are_numbered.ensures.numbers;
  next = c.created_tables_are_numbered.ensures.below;
}
