use Rattle.std.proofs.Common.{◌≡◌, Some, false, codes, rules, sym, ap, ◌∙◌}
use Rattle.std.specs.Str.{bytes_eq}
use Rattle.script_text.specs.declared.pieces.Piece.TheVariants.{Text, Command}
use Rattle.script_text.specs.Script.{command_of, said_of}
use Rattle.script_text.proofs.Heads.{command_said}
use Rattle.script_text.proofs.pieces.other_piece.Goals as goal

pub returns-in-Some-Command : goal.returns-in-Some-Command
returns-in-Some-Command c =
    let said : said_of Text Command command_of c.args.line.now ≡ Some (Command c.in-Some-Command.command) = command_said c.args.line.now c.in-Some-Command.command (sym c.in_ok-text.ensures ∙ c.in-Some-Command.is ∙ ap Some c.in-Some-Command.field-0-is) in
    let other : bytes_eq c.args.line.now (codes "control") ≡ false = search rules in
    rw other (sym said)
