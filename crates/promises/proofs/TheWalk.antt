-- Each accepted run passes the walk of `load` or is answered 31: from a call of the run to a call of the walk on the bytes that it
-- wrote. Assumes nothing.
use mathlib.Core.Path.{◌≡◌, sym, ap, ◌∙◌}
use mathlib.Core.Logic.{◌⊎◌}
use mathlib.Core.List.{List}
use Prim.Native.Nat.{ℕ, ◌*◌}
use borrow.Author.Tests.{le-ltb}
use lib.ListN.{length, take}
use Rattle.records.specs.Events.{event_size}
use Rattle.load.specs.Load.{loaded}
use Rattle.load.proofs.Runs.{accepted_loads}
use Rattle.run.specs.Run.{answer_size, Left}
use Rattle.face.specs.Face.{Walked, walked, said, saphyr_load}
use Rattle.promises.specs.Calls.{Call, Leaves, Walks, by_load, by_load_face}
use Rattle.promises.specs.Demands.{rooms, by_rules}
use Rattle.promises.proofs.Demand1.{ran, accepted_passes}
use Rattle.promises.proofs.Demand3.{as_list}

-- the bytes of the events that a run wrote
pub written_by : Left → List ℕ
written_by l = take (event_size * l.answer.count) l.events

walks : {b : List ℕ} {n : ℕ} → Walks b n → n ≡ (loaded b).number
unfolding walked said saphyr_load
walks (by_load κs a x s k) = ap (λ y. y.number) k
walks (by_load_face κs a x s k room) = ap (λ (w : Walked). w.number) k ∙ rw (le-ltb (length a.1.0.now) answer_size room)

pub accepted_walks : {c : Call} {l : Left} → Leaves c l → l.answer.number ≡ 0 → {n : ℕ} → Walks (written_by l) n → (n ≡ 0) ⊎ (n ≡ 31)
unfolding written_by by_rules
accepted_walks {c = c} k z w =
    let q = accepted_passes k z in
    let r = ran k q in
    rw (walks w, r.count, r.events) (accepted_loads (rooms c) (as_list c q) c.events (sym r.number ∙ z))
