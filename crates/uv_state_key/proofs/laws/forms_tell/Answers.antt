use Rattle.uv_state_key.proofs.FormsTell as forms
use Rattle.uv_state_key.proofs.laws.forms_tell.Goals as goal

pub returns : goal.returns
returns c = forms.forms_tell
