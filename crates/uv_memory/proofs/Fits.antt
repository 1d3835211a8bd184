-- What each step of handles leaves of the requests.
use Rattle.uv_memory.proofs.Names.{◌≡◌, ◌≢◌, ℕ, Bool, true, false, if◌then◌else◌, refl, List, length, slice_get, Some, None, option_and_then, ap, ◌∙◌, subst, arith, slice_get_past, Id, HandleRecord, ListName, WatcherKind, list_of, yet_of, woken, members, held, on_list, plain_slots, SameSlots, IsPushed, without_none, RecordUndo, ListUndo, DelistUndo, TakeUndo, Counted, record_at, IsChanged, IsEnlisted, IsDelisted, IsTaken, CollectUndo, Timed, IsCollected, WalkUndo, woken_if, IsMovedOn, Running, working, asked_at, IsWork, freed_slot, kept_beside, Content, Handle, handle_of, request_of}
use Rattle.uv_records.specs.declared.lists.ListName.TheVariants as name
use Rattle.uv_records.specs.declared.lists.WatcherKind.TheVariants as watcher
use Rattle.uv_records.specs.Slots as plain
use Rattle.uv_arena.specs.Image as arena
use Rattle.uv_memory.proofs.Alone.{alone, absent, stays, OfRequests}

abbrev Work : arena.Image Content → Running → Type 0
Work i r = IsWork request_of (working i r)

-- a slot without a request is changed, and it is on none of the lists of requests before and after
beside : (i j : arena.Image Content) (r : Running) (d : Id) → Work i r → ((e : Id) → e.slot ≢ d.slot → held j e ≡ held i e)
    → ((e : Id) → e.slot ≢ d.slot → on_list j e ≡ on_list i e) → ((e : Id) → e.slot ≡ d.slot → asked_at request_of i e ≡ None)
    → ((e : Id) → e.slot ≡ d.slot → asked_at request_of j e ≡ None) → ((l : ListName) → OfRequests l → members j l ≡ members i l) → Work j r
beside i j r d w same kept before after lists =
    kept_beside request_of i j d r w same kept before after (lists name.Waiting tt) (lists name.Done tt) (lists name.DoneYet tt)

-- a list that isn't of requests is another one than those that are
pub other : (l k : ListName) → (OfRequests k → ⊥) → OfRequests l → l ≢ k
other l k bar o e = bar (subst OfRequests e o)

pub list_not : (k : WatcherKind) → OfRequests (list_of k) → ⊥
list_not watcher.Idle o = o
list_not each o = o

pub yet_not : (k : WatcherKind) → OfRequests (yet_of k) → ⊥
yet_not watcher.Idle o = o
yet_not each o = o

pub work_changed : (a b : Counted Content) (r : Running) (d : Id) (from to : HandleRecord) (u : RecordUndo) → Work a.arena r
    → record_at handle_of a.arena d ≡ Some from → IsChanged handle_of Handle a b d from to u → Work b.arena r
work_changed a b r d from to u w there c =
    beside a.arena b.arena r d w c.set.contents (λ e ne. c.set.kept e) (alone a.arena d from there) (alone b.arena d to c.handle)
    (λ l o. c.set.lists l)

pub work_delisted : (a b : Counted Content) (r : Running) (d : Id) (from to : HandleRecord) (leaves : Bool) (u : DelistUndo) → Work a.arena r
    → IsDelisted handle_of Handle a b d from to leaves u → Work b.arena r
work_delisted a b r d from to leaves u w c =
    let none = alone a.arena d from c.there in
    beside a.arena b.arena r d w c.contents c.kept none (alone b.arena d to c.handle)
    (λ l o. stays leaves (members a.arena l) (members b.arena l) d.slot (absent a.arena r w d none l o) (c.lists l))

pub work_pushed : (i j : arena.Image Content) (r : Running) (d : Id) (h : HandleRecord) (list : ListName) (now : List ℕ) → Work i r
    → record_at handle_of i d ≡ Some h → (OfRequests list → ⊥) → IsPushed i j list d now → Work j r
work_pushed i j r d h list now w there bar p =
    beside i j r d w (λ e ne. p.slots.contents e) p.kept (alone i d h there) (alone j d h (ap (option_and_then handle_of) (p.slots.contents d)
    ∙ there))
    (λ l o. p.others l (other l list bar o))

pub work_enlisted : (a b : Counted Content) (r : Running) (d : Id) (from to : HandleRecord) (list : ListName) (u : ListUndo) → Work a.arena r
    → (OfRequests list → ⊥) → IsEnlisted handle_of Handle a b d from to list u → Work b.arena r
work_enlisted a b r d from to list u w bar c =
    beside a.arena b.arena r d w c.contents c.kept (alone a.arena d from c.there) (alone b.arena d to c.handle) (λ l o. c.others l
    (other l list bar o))

woken_there : (b : Bool) (h : HandleRecord) → woken_if b (Some h) ≡ Some (if b then woken h else h)
woken_there true h = refl
woken_there false h = refl

pub work_walked : (a b : Counted Content) (r : Running) (d : Id) (h : HandleRecord) (k : WatcherKind) (pending : Bool) (u : WalkUndo) → Work a.arena r
    → record_at handle_of a.arena d ≡ Some h → IsMovedOn handle_of Handle a b k d pending u → Work b.arena r
work_walked a b r d h k pending u w there c =
    beside a.arena b.arena r d w c.contents c.kept (alone a.arena d h there) (alone b.arena d (if pending then woken h else h)
    (c.handle ∙ ap (woken_if pending) there ∙ woken_there pending h))
    (λ l o. c.others l (other l (list_of k) (list_not k) o) (other l (yet_of k) (yet_not k) o))

pub work_collected : (room : ℕ) (a b : Timed Content) (r : Running) (d : Id) (u : CollectUndo) → Work a.handles.arena r
    → IsCollected handle_of Handle room a b d u → Work b.handles.arena r
work_collected room a b r d u w c =
    let i = a.handles.arena in
    let none = alone i d c.from c.is_due.handle in
    beside i b.handles.arena r d w c.contents c.kept none (alone b.handles.arena d _ c.handle)
    (λ l o. c.others l (other l name.Ready (λ q. q) o) ∙ without_none (members i l) d.slot (absent i r w d none l o))

-- a handle is freed
pub work_freed : (a b : Counted Content) (r : Running) (d : Id) (h : HandleRecord) (v : Content) (u : TakeUndo) → Work a.arena r
    → record_at handle_of a.arena d ≡ Some h → IsTaken handle_of Handle a b d v u → Work b.arena r
work_freed a b r d h v u w there c =
    let none = alone a.arena d h there in
    beside a.arena b.arena r d w c.contents c.kept none
    (λ e s. ap (option_and_then request_of) (ap (λ (q : plain.Slots Content). plain.held q.slots e) c.plain
    ∙ freed_slot (plain_slots a.arena) d e v c.was s a.arena.last))
    (λ l o. c.lists l ∙ without_none (members a.arena l) d.slot (absent a.arena r w d none l o))

-- slots move between other lists than those of requests
pub work_spliced : (i j : arena.Image Content) (r : Running) → Work i r → SameSlots i j → ((e : Id) → on_list j e ≡ on_list i e)
    → ((l : ListName) → OfRequests l → members j l ≡ members i l) → Work j r
work_spliced i j r w s kept lists =
    let d : Id = record { slot = length (plain_slots i).slots; generation = 0 } in
    let none : (e : Id) → e.slot ≡ d.slot → asked_at request_of i e ≡ None = λ e q.
    ap (λ n. option_and_then request_of (option_and_then (plain.held_in e) (slice_get (plain_slots i).slots n))) q
    ∙ ap (λ o. option_and_then request_of (option_and_then (plain.held_in e) o)) (slice_get_past (plain_slots i).slots d.slot (omega arith)) in
    beside i j r d w (λ e ne. s.contents e) (λ e ne. kept e) none (λ e q. ap (option_and_then request_of) (s.contents e) ∙ none e q) lists
