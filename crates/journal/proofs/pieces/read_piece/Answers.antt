use Rattle.std.proofs.Common.{◌≡◌, ◌⊎◌, ◌-◌, ◌<◌, ◌+◌, ℕ, List, length, take, drop, sym, ◌∙◌, ap, subst, arith, length-take, length-drop}
use Rattle.std.proofs.lemmas.List.{take_at}
use Rattle.journal.specs.Records.{IsPieceAt}
use Rattle.journal.proofs.Piece.{shut_at, piece_at, bad_short, bad_length, not_bad, same_place}
use Rattle.journal.proofs.pieces.read_piece.Goals as goal

pub returns-then-gate-ne1-clause-shut : goal.returns-then-gate-ne1-clause-shut
returns-then-gate-ne1-clause-shut g c told is =
    let K = g.D.Disk in let file = K.seen c.args.disk.now in
    let same = (c.len.ensures.still told).same in
    let lt : c.args.at < length file = omega (arith, c.if-end-at.false, c.in_ok-end.ensures.len told) in
    shut_at file c.read_at.new.buf c.args.at lt (c.in_ok-read_at.ensures.bytes told ∙ ap (λ (l : List ℕ). take 1 (drop c.args.at l)) same) c.if-gate-ne1.true

pub returns-clause-piece : goal.returns-clause-piece
returns-clause-piece g c told =
    let K = g.D.Disk in let file = K.seen c.args.disk.now in let at = c.args.at in
    let same = (c.len.ensures.still told).same in
    let same_2 = (c.read_at.ensures.still told).same ∙ same in
    let same_3 = (c.read_at-2.ensures.still told).same ∙ same_2 in
    let lt : at < length file = omega (arith, c.if-end-at.false, c.in_ok-end.ensures.len told) in
    let buf = c.read_at-3.new.buf in
    let whole = c.in_ok-read_at-3.ensures.bytes told ∙ ap (λ (l : List ℕ). take (length c.deref_mut.result.now) (drop (at + 5) l)) same_3 in
    let size : length buf ≡ c.in-Ok.body.len =
    omega (arith, ap length whole, length-take (length c.deref_mut.result.now) (drop (at + 5) file), length-drop (at + 5) file, c.deref_mut.ensures.len, c.in-Ok.ensures.len, c.if-not-is_length.ensures.yes.2, c.if-end-at-lt5.false, c.in_ok-end.ensures.len told) in
    let body_is = take_at buf (drop (length buf) c.in-Ok.body.items) c.in-Ok.body.len size in
    let four_is = c.in_ok-read_at-2.ensures.bytes told ∙ ap (λ (l : List ℕ). take 4 (drop (at + 1) l)) same_2 in
    let four = c.read_at-2.new.buf in
    let n = c.length_of-len.result in
    let n_is : length c.deref_mut.result.now ≡ n = omega (arith, c.deref_mut.ensures.len, c.in-Ok.ensures.len) in
    let buf_len : length buf ≡ n = omega (arith, size, n_is, c.deref_mut.ensures.len) in
    subst (λ (b : List ℕ). IsPieceAt file at b) (sym body_is)
    (piece_at file c.read_at.new.buf four buf at n lt (c.in_ok-read_at.ensures.bytes told ∙ ap (λ (l : List ℕ). take 1 (drop at l)) same) c.if-gate-ne1.false
    four_is c.length_of-len.ensures.bytes (whole ∙ ap (λ (k : ℕ). take k (drop (at + 5) file)) n_is) buf_len)

pub returns-then-end-at-lt5-clause-bad : goal.returns-then-end-at-lt5-clause-bad
returns-then-end-at-lt5-clause-bad g c = λ place is. (
  same_place c.args.at place is,
  λ told.
      let file = g.D.Disk.seen c.args.disk.now in
      let same = (c.len.ensures.still told).same in
      let lt : c.args.at < length file = omega (arith, c.if-end-at.false, c.in_ok-end.ensures.len told) in
      bad_short file c.read_at.new.buf c.args.at lt (c.in_ok-read_at.ensures.bytes told ∙ ap (λ (l : List ℕ). take 1 (drop c.args.at l)) same) c.if-gate-ne1.false
      (omega (arith, c.if-end-at-lt5.true, c.in_ok-end.ensures.len told)),
)

pub returns-then-not-is_length-clause-bad : goal.returns-then-not-is_length-clause-bad
returns-then-not-is_length-clause-bad g c = λ place is. (
  same_place c.args.at place is,
  λ told.
      let file = g.D.Disk.seen c.args.disk.now in let at = c.args.at in
      let same = (c.len.ensures.still told).same in
      let same_2 = (c.read_at.ensures.still told).same ∙ same in
      let end_is = c.in_ok-end.ensures.len told in
      let lt : at < length file = omega (arith, c.if-end-at.false, end_is) in
      bad_length file c.read_at.new.buf c.read_at-2.new.buf at c.length_of-len.result lt (c.in_ok-read_at.ensures.bytes told ∙ ap (λ (l : List ℕ). take 1 (drop at l)) same) c.if-gate-ne1.false
      (omega (arith, c.if-end-at-lt5.false, end_is)) (c.in_ok-read_at-2.ensures.bytes told ∙ ap (λ (l : List ℕ). take 4 (drop (at + 1) l)) same_2) c.length_of-len.ensures.bytes c.length_of-len.ensures.fits
      (subst (λ (n : ℕ). (c.length_of-len.result ≡ 0) ⊎ ((134217728 < c.length_of-len.result) ⊎ (n - at - 5 < c.length_of-len.result))) end_is c.if-not-is_length.ensures.no),
)

pub returns-in_default-clause-sound : goal.returns-in_default-clause-sound
returns-in_default-clause-sound g c told is =
    let file = g.D.Disk.seen c.args.disk.now in let at = c.args.at in
    let same = (c.len.ensures.still told).same in
    let same_2 = (c.read_at.ensures.still told).same ∙ same in
    let end_is = c.in_ok-end.ensures.len told in
    let fits = c.if-not-is_length.ensures.yes in
    let lt : at < length file = omega (arith, c.if-end-at.false, end_is) in
    not_bad file c.read_at.new.buf c.read_at-2.new.buf at c.length_of-len.result lt (c.in_ok-read_at.ensures.bytes told ∙ ap (λ (l : List ℕ). take 1 (drop at l)) same) c.if-gate-ne1.false
    (omega (arith, c.if-end-at-lt5.false, end_is)) (c.in_ok-read_at-2.ensures.bytes told ∙ ap (λ (l : List ℕ). take 4 (drop (at + 1) l)) same_2) c.length_of-len.ensures.bytes c.length_of-len.ensures.fits
    (fits.0, fits.1, omega (arith, fits.2, end_is))
