use Rattle.std.proofs.Common.{Bor, List, ℕ, ◌∙◌, sym, refl, inl, inr, map, Some, ◌∷◌, []}
use Rattle.std.proofs.lemmas.List.{map-append}
use Rattle.csv.specs.Reading.{Reached, default_config, strip_bom}
use Rattle.csv.specs.Records.{fields_of}
use Rattle.csv.specs.declared.parser.State.TheVariants as st
use Rattle.csv.proofs.ReadFacts.{rows-more}
use Rattle.csv_load.proofs.records.read_all.Goals as goal

pub loop-row-init : goal.loop-row-init
unfolding Reached
loop-row-init c =
    let made = c.from_reader-reader.ensures in
    let set = c.flexible.ensures ∙ refl in
    let start = c.into_iter-row-iterator.ensures.into_iter_gives ∙ refl in
    let rdr = c.into_byte_records-row-items.ensures.rdr in
    let left = c.into_byte_records-row-items.ensures.left in
    rw (start, rdr, c.new-rows.ensures.items) (record {
      trim = rw (c.flexible.ensures, c.has_headers.ensures) at made.trim ∙ c.new.ensures.trim;
      ready = inr (inr (rw (c.flexible.ensures, c.has_headers.ensures) at made.has_headers, made.headers));
      left = left;
      config = rw (c.flexible.ensures, c.has_headers.ensures) at made.config ∙ c.new.ensures.config;
      read = (strip_bom c.args.text.now, made.source, (sym made.state, refl));
    })

pub loop-row-preserved : goal.loop-row-preserved
loop-row-preserved c =
    let inv = c.loop-row.invariant in
    let step = rw (c.in-Some.is, c.in-Ok.is) at ((c.next.ensures.steps inv.left inv.trim).0 inv.ready) in
    let items = c.in_ok-push-in-Ok.ensures.items in
    let more = rows-more (λ (s : Bor (List ℕ)). Some s.now) c.loop-row.row-iterator.rdr c.next.new.self.rdr (fields_of c.in-Ok.row) default_config st.StartRecord (strip_bom c.args.text.now) inv.read.0 (map fields_of c.loop-row.rows.items) inv.config inv.read.1 inv.read.2 step.0 in
    record {
      trim = step.0.3 ∙ inv.trim;
      ready = inl step.1;
      left = step.2;
      config = step.0.2 ∙ inv.config;
      read = (more.0, more.1, rw (items, map-append fields_of c.loop-row.rows.items (c.in-Ok.row ∷ [])) more.2);
    }
