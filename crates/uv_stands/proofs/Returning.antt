-- A step's record, and a step that grew.
use Rattle.uv_stands.proofs.ProofNames.{◌∙◌, Place, Record, Held, Recorded, Extended, Returns}

pub recorded_returns : {r : Record Place} {old new : Held Place} → Recorded r old new → Returns r old new
recorded_returns h = record { back = h.back; can = h.can; fit = h.fit; room = h.room }

pub extended_returns : {r s : Record Place} {old mid new : Held Place} → Returns r old mid → Extended r s mid new → Returns s old new
extended_returns h e = record { back = e.back ∙ h.back; can = e.can; fit = e.fit; room = e.room ∙ h.room }
