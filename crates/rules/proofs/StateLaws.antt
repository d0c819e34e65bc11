-- Laws of the numbers of a state: it is had back from them, and no other number is a rank. Assumes nothing.
use mathlib.Core.Path.{◌≡◌, refl, sym}
use Prim.Native.Nat.{ℕ, suc, ◌≤◌}
use native.Mathlib.Omega.{arith}
use lib.ListN.{get_or-eq_default}
use Rattle.tables.specs.declared.states.OpenState.{OpenState}
use Rattle.rules.specs.States.{ranked, numbers, back, states}
use Rattle.rules.specs.declared.State.{State}
use Rattle.rules.specs.declared.State.TheVariants as s

pub back-past : (p : OpenState) → 21 ≤ p.rank → s.End ≡ back p
unfolding back states
back-past p h = sym (get_or-eq_default (states p.position) s.End h)

-- a number that is at least k, and not k
pub above : {k n : ℕ} → k ≤ n → (n ≡ k → ⊥) → suc k ≤ n
above h d = omega (arith, d)

-- a state is had back
pub back-numbers : (state : State) → back (numbers state) ≡ state
unfolding back states numbers ranked
back-numbers s.StreamStart = refl
back-numbers s.ImplicitDocumentStart = refl
back-numbers s.DocumentStart = refl
back-numbers s.DocumentContent = refl
back-numbers s.DocumentEnd = refl
back-numbers s.BlockNode = refl
back-numbers s.BlockSequenceFirstEntry = refl
back-numbers s.BlockSequenceEntry = refl
back-numbers s.IndentlessSequenceEntry = refl
back-numbers s.BlockMappingFirstKey = refl
back-numbers s.BlockMappingKey = refl
back-numbers s.BlockMappingValue = refl
back-numbers s.FlowSequenceFirstEntry = refl
back-numbers s.FlowSequenceEntry = refl
back-numbers s.FlowSequenceEntryMappingKey = refl
back-numbers s.FlowSequenceEntryMappingValue = refl
back-numbers (s.FlowSequenceEntryMappingEnd mark) = refl
back-numbers s.FlowMappingFirstKey = refl
back-numbers s.FlowMappingKey = refl
back-numbers s.FlowMappingValue = refl
back-numbers s.FlowMappingEmptyValue = refl
back-numbers s.End = refl
