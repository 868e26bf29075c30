-- What may be made next.
use Rattle.std.specs.Prelude.{◌≡◌, ℕ, true, false, []}
use Rattle.kn_server_node.specs.declared.candidate.Candidate.{Candidate}
use Rattle.kn_server_node.specs.declared.task.Task.{Task}
use Rattle.kn_server_node.specs.declared.task.Task.TheVariants as task
use Rattle.kn_server_node.specs.declared.node.Node.{Node}
use Rattle.kn_server_node.specs.Nodes.{can_handle, is_before}
use Rattle.kn_server_node.specs.Steps.{MayDo}
use Rattle.kn_server_node.specs.Steps as step

-- no stream has anything to handle
abbrev pub NoneCan : Node → Type 0
NoneCan node = (c s : ℕ) → can_handle node c s ≡ false

-- it has something to handle, and none before it has
pub record IsLeastToHandle (node : Node) (x : Candidate) : Type 0 where
  pub can : can_handle node x.conn x.stream ≡ true
  pub least : (d t : ℕ) → is_before d t x.conn x.stream ≡ true → can_handle node d t ≡ false

-- nothing follows, nothing was told, and nothing is to be handled
pub record IsDone (node : Node) : Type 0 where
  pub followed : node.todo ≡ []
  pub heard : node.told ≡ []
  pub handled : NoneCan node

abbrev pub MayMake : Node → Task → Type 0
MayMake node task.Follow = MayDo node step.Follow
MayMake node task.Hear = MayDo node step.Hear
MayMake node (task.Handle c s) = MayDo node (step.Handle c s)
