use Rattle.uv_state_key.proofs.States as states
use Rattle.uv_state_key.proofs.laws.keys_tell.Goals as goal

pub returns : goal.returns
returns c = states.keys_tell
