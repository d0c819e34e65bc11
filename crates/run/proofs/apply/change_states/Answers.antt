use mathlib.Core.Path.{refl}
use Rattle.run.specs.Apply.{stands, stood, depth_of, opening, deep}
use Rattle.run.proofs.apply.change_states.Goals as goal

pub returns-in-Keep : goal.returns-in-Keep
unfolding stands stood opening deep depth_of
returns-in-Keep c =
    rw (c.stands.ensures, c.in-Keep.is) (record { stack = λ l. refl; unused = λ l u. u })

pub returns-in-Push : goal.returns-in-Push
unfolding stands stood opening deep depth_of
returns-in-Push c =
    rw (c.stands-in-Push.ensures, c.in-Push.is) (record { stack = λ l. rw (c.push.ensures.stack l); unused = λ l. c.push.ensures.unused })

pub returns-in-Pop : goal.returns-in-Pop
unfolding opening deep
returns-in-Pop c =
    rw c.in-Pop.is (record { stack = c.pop.ensures.stack; unused = c.pop.ensures.unused })
