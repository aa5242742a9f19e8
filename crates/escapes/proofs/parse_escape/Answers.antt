-- `escapes::parse_escape` meets its contract: each way out is one law of escapes. Assumes nothing.
use Rattle.std.proofs.Common.{◌≡◌, ◌∙◌, ℕ, ◌≤◌, List, length, arith}
use borrow.Author.Tests.{eqb-false}
use Rattle.escapes.specs.Pieces.{digits}
use Rattle.escapes.proofs.Escapes.{escape_end, escape_itself, escape_newline, escape_joined, escape_other, escape_octal, escape_dropped, escape_kept, digits_few, digits_inside, three_octal, line_over, line_newline, line_goes_on}
use Rattle.escapes.proofs.parse_escape.Goals as goal
use Rattle.escapes.proofs.parse_escape.Goals.{then-n-text-via-then-n-text, then-n-text-via-else-n-text+then-text-n-eq10}

few : (t : List ℕ) {n : ℕ} → n ≡ length (digits t) → (n ≤ 3) × (n ≤ length t)
few t e = (omega (arith, e, digits_few t), omega (arith, e, digits_inside t))

pub returns-then-n-eq0 : goal.returns-then-n-eq0
returns-then-n-eq0 c = c.of-then-n-eq0.ensures ∙ escape_other _ _ (omega (arith, c.if-text-eq0)) (λ e. omega arith) (λ e. omega arith) (λ e. omega arith) c.octal_digits-n.ensures c.if-n-eq0.true

pub octal-requires : goal.octal-requires
octal-requires c = three_octal c.args.text.now _ c.octal_digits-n.ensures c.if-n-eq3.true

pub returns-then-n-eq3 : goal.returns-then-n-eq3
returns-then-n-eq3 c = c.of-then-n-eq3.ensures ∙ escape_octal _ _ c.octal_digits-n.ensures _ c.if-n-eq3.true c.octal.ensures

pub returns-then-n-text : goal.returns-then-n-text
returns-then-n-text c =
    let t = c.args.text.now in
    let h : c.octal_digits-n.result ≤ length t = (few _ c.octal_digits-n.ensures).1 in
    c.nothing-then-n-text.ensures
    ∙ escape_dropped _ _ c.octal_digits-n.ensures c.if-n-eq0.false c.if-n-eq3.false
    (elim c.then-n-text.branch [
      | then-n-text-via-then-n-text w ↦ line_over t c.octal_digits-n.result w.if-n-text.true
      | then-n-text-via-else-n-text+then-text-n-eq10 w ↦ line_newline t c.octal_digits-n.result (omega (arith, w.if-n-text.false)) w.if-text-n-eq10.true
    ])

pub returns : goal.returns
returns c =
    let h : c.octal_digits-n.result ≤ length c.args.text.now = (few _ c.octal_digits-n.ensures).1 in
    c.of-2.ensures
    ∙ escape_kept _ _ c.octal_digits-n.ensures c.if-n-eq0.false c.if-n-eq3.false
    (line_goes_on c.args.text.now c.octal_digits-n.result (omega (arith, c.if-n-text.false)) (eqb-false _ 10 c.if-text-n-eq10.false-raw))

pub returns-then-text-eq0 : goal.returns-then-text-eq0
returns-then-text-eq0 c = c.of.ensures ∙ escape_end _ c.if-text-eq0.true

pub returns-in-32 : goal.returns-in-32
returns-in-32 c = c.of-in-32.ensures ∙ escape_itself _ (omega arith) c.in-32.is

pub returns-in-110 : goal.returns-in-110
returns-in-110 c = c.of-in-110.ensures ∙ escape_newline _ (omega arith) c.in-110.is

pub returns-in-10 : goal.returns-in-10
returns-in-10 c = c.nothing.ensures ∙ escape_joined _ (omega arith) c.in-10.is

pub bounds-text-1 : goal.bounds-text-1
bounds-text-1 c = omega (arith, few _ c.octal_digits-n.ensures, c.if-n-eq3.true)

pub bounds-text-2 : goal.bounds-text-2
bounds-text-2 c = omega (arith, few _ c.octal_digits-n.ensures, c.if-n-eq3.true)

pub bounds-text-n : goal.bounds-text-n
bounds-text-n c = omega (arith, few _ c.octal_digits-n.ensures, c.if-n-text.false)
