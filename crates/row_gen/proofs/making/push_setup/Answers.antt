use Rattle.std.proofs.Common.{ap, sym, codes, ◌∙◌, ◌++◌, map}
use Rattle.std.specs.List.{range_with_len}
use Rattle.row_gen.specs.Listing.{alter_age, create_people, person, text_of}
use Rattle.row_gen.specs.Steps.{line_text}
use Rattle.row_gen.proofs.Listings.{people_are}
use Rattle.row_gen.proofs.Turns.{setup_pushed}
use Rattle.row_gen.proofs.making.push_setup.Goals as goal

pub returns : goal.returns
returns c =
    setup_pushed c.args.out.now.items c.push_line.new.out.items c.push_line-2.new.out.items c.push_line-3.new.out.items
    c.push_people.new.out.items c.push_line-4.new.out.items
    create_people (codes "\\complete") (codes "SET search_path TO public_01_people;") alter_age
    (map (person c.args.draws.now.state) (range_with_len 1 c.args.rows))
    (c.in_ok-push_line.ensures ∙ ap (λ l. c.args.out.now.items ++ line_text l) c.create_people.ensures)
    c.in_ok-push_line-2.ensures
    c.in_ok-push_line-3.ensures
    (c.in_ok-push_people.ensures ∙ ap (λ lines. c.push_line-3.new.out.items ++ text_of lines) (sym (people_are c.args.draws.now.state 0 c.args.rows)))
    (c.in_ok-push_line-4.ensures ∙ ap (λ l. c.push_people.new.out.items ++ line_text l) c.alter_age.ensures)
