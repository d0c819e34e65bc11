-- Calls of the run and of its C face, by their contracts: what was lent, and what a call is known to leave. `Learnt` is the
-- contract as the source states it: lifetimes, arguments, result, and what stands behind the arguments at exit.
use Rattle.std.specs.Prelude.{ℕ, ◌≤◌, not, List, eqb, length}
use Rattle.places.specs.Places.{field_of}
use Rattle.run.specs.Run.{answer_size, Left}
use Rattle.run.specs.declared.Answer.{Answer}
use Rattle.run.specs.declared.Settings.{Settings}
use Rattle.run.proofs.run.Reads as run
use Rattle.load.proofs.load.Reads as load
use Rattle.face.proofs.saphyr_run.Reads as saphyr_run
use Rattle.face.proofs.saphyr_load.Reads as saphyr_load

-- what a caller lends: any bytes
pub record Call : Type 0 where
  pub tokens : List ℕ
  pub text : List ℕ
  pub settings : Settings
  pub events : List ℕ
  pub states : List ℕ
  pub anchors : List ℕ
  pub handles : List ℕ

-- number, count and place, as an answer buffer holds them
unfoldable pub answer_in : List ℕ → Answer
answer_in b = record { number = field_of b answer_size 0 0; count = field_of b answer_size 0 1; place = field_of b answer_size 0 2 }

-- what a call leaves: of `run::run`, and of `saphyr_run` with room for its answer, where a setting is on if it is not 0
pub data Leaves : Call → Left → Type 1 where
  by_run : (κs : _) (a : _) (x : _) (s : _) → run.Learnt κs a x s
      → Leaves
      (record {
        tokens = a.0.now;
        text = a.1.0.now;
        settings = a.1.1.0;
        events = a.1.1.1.0.now;
        states = a.1.1.1.1.0.now;
        anchors = a.1.1.1.1.1.0.now;
        handles = a.1.1.1.1.1.1.0.now;
      })
      (record {
        answer = x;
        events = s.1.1.1.0.now;
        states = s.1.1.1.1.0.now;
        anchors = s.1.1.1.1.1.0.now;
        handles = s.1.1.1.1.1.1.0.now;
      })
  by_face : (κs : _) (a : _) (x : _) (s : _) → saphyr_run.Learnt κs a x s → answer_size ≤ length a.1.1.1.1.1.1.1.1.0.now
      → Leaves
      (record {
        tokens = a.0.now;
        text = a.1.0.now;
        settings = record { keep = not (eqb a.1.1.0 0); forget = not (eqb a.1.1.1.0 0) };
        events = a.1.1.1.1.0.now;
        states = a.1.1.1.1.1.0.now;
        anchors = a.1.1.1.1.1.1.0.now;
        handles = a.1.1.1.1.1.1.1.0.now;
      })
      (record {
        answer = answer_in s.1.1.1.1.1.1.1.1.0.now;
        events = s.1.1.1.1.0.now;
        states = s.1.1.1.1.1.0.now;
        anchors = s.1.1.1.1.1.1.0.now;
        handles = s.1.1.1.1.1.1.1.0.now;
      })

-- the number that the walk over these event bytes answers: of `load::load`, and of `saphyr_load` with room for its answer
pub data Walks : List ℕ → ℕ → Type 1 where
  by_load : (κs : _) (a : _) (x : _) (s : _) → load.Learnt κs a x s → Walks a.0.now x.number
  by_load_face : (κs : _) (a : _) (x : _) (s : _) → saphyr_load.Learnt κs a x s → answer_size ≤ length a.1.0.now → Walks a.0.now x
