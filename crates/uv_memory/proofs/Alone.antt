-- A handle's slot is changed: the requests are as before. A request's slot is changed: the handles are counted as before.
use Rattle.uv_memory.proofs.Names.{◌≡◌, ℕ, Bool, true, false, if◌then◌else◌, eqb, List, Some, None, option_and_then, refl, ap, ◌∙◌, inl, inr, Id, HandleRecord, ListName, Waiting, Ended, EndedYet, without, IsIn, members, held, or_none, without_none, record_at, content_of, Running, working, id_in, asked_at, IsWork, one_id, Content, handle_of, request_of, no_request}
use Rattle.uv_arena.specs.Image as arena

-- under no id of a handle's slot there is a request
pub alone : (i : arena.Image Content) (d : Id) (h : HandleRecord) → record_at handle_of i d ≡ Some h → (e : Id) → e.slot ≡ d.slot
    → asked_at request_of i e ≡ None
alone i d h is e s = elim (or_none (held i e)) [
  | inl n ↦ ap (option_and_then request_of) n
  | inr x ↦
      let c = content_of handle_of i d h is in
      let one : e ≡ d = one_id i d e c.0 x.0 c.1 x.1 s in
      ap (asked_at request_of i) one ∙ ap (option_and_then request_of) c.1 ∙ no_request c.0 h c.2
]

-- a list of requests
abbrev pub OfRequests : ListName → Type 0
OfRequests Waiting = Unit {0}
OfRequests Ended = Unit {0}
OfRequests EndedYet = Unit {0}
OfRequests l = ⊥

-- a handle is on none of them
pub absent : (i : arena.Image Content) (r : Running) → IsWork request_of (working i r) → (d : Id)
    → ((e : Id) → e.slot ≡ d.slot → asked_at request_of i e ≡ None) → (l : ListName) → OfRequests l → IsIn d.slot (members i l) → ⊥
absent i r w d none Waiting o m = let q = w.waiting d.slot m in let n = none (id_in i d.slot) refl in cc (q.is, n)
absent i r w d none Ended o m = let q = w.done d.slot m in let n = none (id_in i d.slot) refl in cc (q.is, n)
absent i r w d none EndedYet o m = let q = w.yet d.slot m in let n = none (id_in i d.slot) refl in cc (q.is, n)
absent i r w d none l o m = absurd o

-- a list that the slot leaves, or not
pub stays : (b : Bool) (xs ys : List ℕ) (x : ℕ) → (IsIn x xs → ⊥) → ys ≡ (if b then without eqb xs x else xs) → ys ≡ xs
stays true xs ys x none e = e ∙ without_none xs x none
stays false xs ys x none e = e
