-- The answers of a board's calls are small enough for their codes, and what the boundary makes of each. Assumes nothing.
use Rattle.std.specs.Prelude.{if◌then◌else◌}
use mathlib.Core.Bool.{Bool, true, false}
use mathlib.Core.List.{[], ◌∷◌}
use mathlib.Core.Path.{◌≡◌, refl, sym, ap}
use Prim.Native.Nat.{ℕ}
use native.Mathlib.Omega.{arith}
use Rattle.definition.specs.Lookup.{given, refused}
use Rattle.definition.specs.Adding.{over}
use Rattle.definition.specs.Board.{Call, Lent, lent, short_board, Done, done, board_make, board_call}
use Rattle.board_laws.proofs.Calls.{laid}
use Rattle.board_laws.proofs.Histories.{refused_given, reply_small}
use Rattle.std.specs.Prelude.{Result, Ok, Err}
use Rattle.refusal.specs.declared.Refusal.{Refusal}
use Rattle.board.specs.Replies.{replied}
use Rattle.board.proofs.Calling.{call_board}
use Rattle.board_codes.specs.Codes.{call_code, Numbered}
use Rattle.resource_manager.specs.Boundary.{crossing, board_crossed}

module _ (l o : Lent) where
  pub made_numbered : (r : Result ℕ Refusal) → done (replied r) o ≡ board_make l → Numbered r
  unfolding board_make
  made_numbered (Ok n) e = at (short_board l) (ap (λ (d : Done). d.answer) e)
    where
      at : (s : Bool) → given n ≡ (if s then done (refused 1) l else done (given 0) (lent (over 0 (0 ∷ 0 ∷ []) l.words) l.bytes)).answer → Numbered (Ok n)
      at true z = absurd (refused_given (sym z))
      at false z = let y : n ≡ 0 = cc in omega (arith, y)
  made_numbered (Err k) e = tt

  pub call_numbered : (c : Call) (r : Result ℕ Refusal) → done (replied r) o ≡ board_call c l → Numbered r
  call_numbered c (Ok n) e = let b = call_board c l n (ap (λ (d : Done). d.answer) e) in reply_small l (laid l b.0) c n b.1
  call_numbered c (Err k) e = tt

pub board_crosses : (r : Result ℕ Refusal) (n : ℕ) (o : Lent) (d : Done) → done (replied r) o ≡ d → n ≡ call_code (replied r) → crossing n o.words o.bytes ≡ board_crossed d
board_crosses r n o d e f = rw (← e, f) refl
