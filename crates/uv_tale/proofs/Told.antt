-- What each change that a form takes away leaves is told as before.
use Rattle.uv_tale.proofs.Names.{◌≡◌, ℕ, ◌+◌, ◌≤◌, List, [], ◌∷◌, length, Option, Some, None, refl, ap, ap₂, sym, ◌∙◌, map, min, option_map, length-map, Due, Id, Named, Slot, Slots, held, Walk, Content, Place, Main, Running, State, By, shift, base, earlier, earliest, or_first, or_over, Retiming, retimed_content, retimed_place, retimed_slot, earliest_same, Frees, more, held_renamed, capped_body, capped_calls, capped_name, capped_place, staled_id, staled_name, twice, held_same, reduced, arranged, buried, buried_by, buried_id, buried_name, dead_gone, Fits, length_arranged, held_arranged, ordered, orderly, map_ordered, Bound, Nothing, Gone, Holds, Told, Tale, as_id, bound_by, bound_to, name_at, names_at, number_of, runs_at, tale, tale_by, told_name, walk_at, Calls, Body, length_renamed}
use Rattle.uv_work.specs.declared.content.Content.TheVariants as content
use Rattle.uv_tale.proofs.Form.{first_other, over_capped, start_other}
use Rattle.uv_tale.proofs.Timers.{held_retimed}

-- what a list becomes in two steps it becomes in one
each : {A B C : Type 0} (f : A → B) (g : B → C) (h : A → C) → ((x : A) → g (f x) ≡ h x) → (xs : List A) → map g (map f xs) ≡ map h xs
each f g h same [] = refl
each f g h same (x ∷ xs) = ap₂ (λ y ys. y ∷ ys) (same x) (each f g h same xs)

-- ---- the tale is told by the earliest form, as it stands

-- what a name is bound to, with its times as they are
abbrev pub content_now : Option Content → Bound
content_now None = Gone
content_now (Some x) = Holds x

abbrev pub bound_now : List (Slot Content) → Option Id → Bound
bound_now slots None = Nothing
bound_now slots (Some id) = content_now (held slots id)

abbrev pub name_now : ℕ → List (Slot Content) → Named → Told
name_now n slots x = record { bound = bound_now slots x.id; calls = capped_calls n x.calls }

abbrev pub tale_now : ℕ → State → Tale
tale_now n s = record {
  place = capped_place n s.place;
  names = map (name_now n s.arena.slots) s.names;
  used = length s.arena.slots;
  unused = s.arena.unused;
  ready = names_at s.arena.slots s.ready;
  idle = walk_at s.arena.slots s.watchers.idle;
  prepare = walk_at s.arena.slots s.watchers.prepare;
  check = walk_at s.arena.slots s.watchers.check;
  async = walk_at s.arena.slots s.watchers.async;
  closing = walk_at s.arena.slots s.closing;
  waiting = names_at s.arena.slots s.waiting;
  running = runs_at s.arena.slots s.running;
  done = walk_at s.arena.slots s.done;
  numbers = record { time = s.time; clock = s.clock; next_start = s.next_start; stop_flag = s.stop_flag; idled = s.idled };
}

-- a place comes to the same whether its calls are cut first, or its times made earlier
place_now : (r : Retiming) (n : ℕ) (place : Place) → retimed_place r (capped_place n place) ≡ capped_place n (retimed_place r place)
place_now r n (Main line) = refl
place_now r n (Running run) = refl

-- what is told of what is held is that itself, with earlier times
content_same : (d : By) (o : Option Content) → bound_by d o ≡ content_now (option_map (retimed_content (earlier d)) o)
content_same d None = refl
content_same d (Some x) = refl

-- the name of what is held stays
number_same : (r : Retiming) (o : Option Content) → number_of o ≡ number_of (option_map (retimed_content r) o)
number_same r None = refl
number_same r (Some (content.Handle h)) = refl
number_same r (Some (content.Request q)) = refl

module _ (d : By) (n : ℕ) (slots : List (Slot Content)) where
  -- what is told of an id, of a name, and which name an id has
  bound_same : (o : Option Id) → bound_to d slots o ≡ bound_now (map (retimed_slot (earlier d)) slots) o
  bound_same None = refl
  bound_same (Some id) = content_same d (held slots id) ∙ ap content_now (sym (held_retimed (earlier d) slots id))

  told_same : (x : Named) → told_name d n slots x ≡ name_now n (map (retimed_slot (earlier d)) slots) x
  told_same x = λ i. record { bound = bound_same x.id i; calls = capped_calls n x.calls }

  at_same : (id : Id) → name_at slots id ≡ name_at (map (retimed_slot (earlier d)) slots) id
  at_same id = number_same (earlier d) (held slots id) ∙ ap number_of (sym (held_retimed (earlier d) slots id))

-- so is the whole tale
pub tale_earliest : (n : ℕ) (s : State) → tale n s ≡ tale_now n (earliest s)
tale_earliest n s =
    let d = base s in
    let slots = s.arena.slots in
    let place = place_now (earlier d) n s.place in
    let name = told_same d n slots in
    let at = at_same d n slots in
    let used : length slots ≡ length (map (retimed_slot (earlier d)) slots) = sym (length-map slots (retimed_slot (earlier d))) in
    λ i. record {
      place = place i;
      names = map (λ x. name x i) s.names;
      used = used i;
      unused = s.arena.unused;
      ready = map (λ id. at id i) s.ready;
      idle = record { list = map (λ id. at id i) s.watchers.idle.list; yet = map (λ id. at id i) s.watchers.idle.yet };
      prepare = record { list = map (λ id. at id i) s.watchers.prepare.list; yet = map (λ id. at id i) s.watchers.prepare.yet };
      check = record { list = map (λ id. at id i) s.watchers.check.list; yet = map (λ id. at id i) s.watchers.check.yet };
      async = record { list = map (λ id. at id i) s.watchers.async.list; yet = map (λ id. at id i) s.watchers.async.yet };
      closing = record { list = map (λ id. at id i) s.closing.list; yet = map (λ id. at id i) s.closing.yet };
      waiting = map (λ id. at id i) s.waiting;
      running = ordered (map (option_map (λ (id : Id). as_id (at id i))) s.running);
      done = record { list = map (λ id. at id i) s.done.list; yet = map (λ id. at id i) s.done.yet };
      numbers = (tale n s).numbers;
    }

-- ---- ids that become others, under each of which the same is held

module _ (slots other : List (Slot Content)) (g : Id → Id) (same : (id : Id) → held other (g id) ≡ held slots id) where
  -- what a name is bound to, and which names stand on a list
  bound_other : (d : By) (o : Option Id) → bound_to d other (option_map g o) ≡ bound_to d slots o
  bound_other d None = refl
  bound_other d (Some id) = ap (bound_by d) (same id)

  name_other : (id : Id) → name_at other (g id) ≡ name_at slots id
  name_other id = ap number_of (same id)

  list_other : (ids : List Id) → names_at other (map g ids) ≡ names_at slots ids
  list_other ids = each g (name_at other) (name_at slots) name_other ids

  walk_other : (w : Walk Id) → walk_at other (record { list = map g w.list; yet = map g w.yet }) ≡ walk_at slots w
  walk_other w = λ i. record { list = list_other w.list i; yet = list_other w.yet i }

  -- and which ones workers run
  run_other : (o : Option Id) →
      option_map (λ (id : Id). as_id (name_at other id)) (option_map g o) ≡ option_map (λ (id : Id). as_id (name_at slots id)) o
  run_other None = refl
  run_other (Some id) = ap (λ v. Some (as_id v)) (name_other id)

  runs_other : (xs : List (Option Id)) → runs_at other (map (option_map g) xs) ≡ runs_at slots xs
  runs_other xs = ap ordered (each (option_map g) (option_map (λ (id : Id). as_id (name_at other id)))
      (option_map (λ (id : Id). as_id (name_at slots id))) run_other xs)

-- a state with other ids, and other slots
abbrev with_ids : (Id → Id) → List (Slot Content) → List ℕ → State → State
with_ids g slots free s = record s {
  names = map (λ (x : Named). record x { id = option_map g x.id }) s.names;
  arena = record s.arena { slots = slots; free = free };
  timers = map (λ (t : Due × Id). (t.0, g t.1)) s.timers;
  ready = map g s.ready;
  watchers = record {
    idle = record { list = map g s.watchers.idle.list; yet = map g s.watchers.idle.yet };
    prepare = record { list = map g s.watchers.prepare.list; yet = map g s.watchers.prepare.yet };
    check = record { list = map g s.watchers.check.list; yet = map g s.watchers.check.yet };
    async = record { list = map g s.watchers.async.list; yet = map g s.watchers.async.yet };
  };
  closing = record { list = map g s.closing.list; yet = map g s.closing.yet };
  waiting = map g s.waiting;
  running = map (option_map g) s.running;
  done = record { list = map g s.done.list; yet = map g s.done.yet };
}

-- the tale tells neither ids nor slots
tale_other : (n : ℕ) (g : Id → Id) (other : List (Slot Content)) (free : List ℕ) (s : State) →
    ((id : Id) → held other (g id) ≡ held s.arena.slots id) → length other ≡ length s.arena.slots →
    tale n (with_ids g other free s) ≡ tale n s
tale_other n g other free s same used =
    let slots = s.arena.slots in
    let ms = ap (or_over s.place) (first_other g s.timers (min s.time s.clock)) in
    let starts = start_other g s.timers s.next_start in
    let by : base (with_ids g other free s) ≡ base s = λ i. record { ms = ms i; starts = starts i } in
    let bound = bound_other slots other g same (base s) in
    let names : map (told_name (base s) n other) (with_ids g other free s).names ≡ (tale n s).names =
    each (λ (x : Named). record x { id = option_map g x.id }) (told_name (base s) n other) (told_name (base s) n slots)
    (λ x i. record { bound = bound x.id i; calls = capped_calls n x.calls }) s.names in
    let list = list_other slots other g same in
    let walk = walk_other slots other g same in
    let running = runs_other slots other g same s.running in
    ap (λ (d : By). tale_by d n (with_ids g other free s)) by
    ∙ (λ i. record {
      place = (tale n s).place;
      names = names i;
      used = used i;
      unused = s.arena.unused;
      ready = list s.ready i;
      idle = walk s.watchers.idle i;
      prepare = walk s.watchers.prepare i;
      check = walk s.watchers.check i;
      async = walk s.watchers.async i;
      closing = walk s.closing i;
      waiting = list s.waiting i;
      running = running i;
      done = walk s.done i;
      numbers = (tale n s).numbers;
    })

-- ---- names that forget

-- nothing is held under the id of what is gone
pub held_buried : (dead : ℕ) (a : Slots Content) → length a.slots + a.unused ≤ dead → (id : Id) →
    held a.slots (buried_id dead a.slots id) ≡ held a.slots id
held_buried dead a below id = by (held a.slots id) refl where
  by : (o : Option Content) → held a.slots id ≡ o → held a.slots (buried_by dead id o) ≡ o
  by None e = (dead_gone dead a below).1
  by (Some x) e = e

-- counts that were cut at a number stay where they are cut there again
body_twice : (n : ℕ) (o : Option Body) → option_map (capped_body n) (option_map (capped_body n) o) ≡ option_map (capped_body n) o
body_twice n None = refl
body_twice n (Some body) = ap (λ call. Some (record body { call = call })) (twice body.call n)

place_twice : (n : ℕ) (place : Place) → capped_place n (capped_place n place) ≡ capped_place n place
place_twice n (Main line) = refl
place_twice n (Running run) = ap (λ body. Running (record run { body = body })) (body_twice n run.body)

calls_twice : (n : ℕ) (c : Calls) → capped_calls n (capped_calls n c) ≡ capped_calls n c
calls_twice n c = λ i. record { handle = twice c.handle n i; after = twice c.after n i; close = twice c.close n i }

-- so the tale stays where counts are cut, and names forget earlier generations
pub tale_reduced : (n : ℕ) (s : State) → tale n (reduced n s) ≡ tale n s
tale_reduced n s =
    let slots = s.arena.slots in
    let d = base s in
    let ms = over_capped n s.place (or_first s.timers (min s.time s.clock)) in
    let by : base (reduced n s) ≡ base s = λ i. record { ms = ms i; starts = d.starts } in
    let bound = bound_other slots slots (staled_id slots) (held_same slots) d in
    let capped = each (capped_name n) (told_name d n slots) (told_name d n slots)
    (λ x i. record { bound = bound_to d slots x.id; calls = calls_twice n x.calls i }) (map (staled_name slots) s.names) in
    let named = each (staled_name slots) (told_name d n slots) (told_name d n slots)
    (λ x i. record { bound = bound x.id i; calls = capped_calls n x.calls }) s.names in
    let names = capped ∙ named in
    let place = ap (retimed_place (earlier d)) (place_twice n s.place) in
    ap (λ (x : By). tale_by x n (reduced n s)) by ∙ (λ i. record (tale n s) { place = place i; names = names i })

-- and where they forget in which slot that was which is gone
pub tale_buried : (n dead : ℕ) (s : State) → length s.arena.slots + s.arena.unused ≤ dead → tale n (buried dead s) ≡ tale n s
tale_buried n dead s below =
    let slots = s.arena.slots in
    let d = base s in
    let bound = bound_other slots slots (buried_id dead slots) (held_buried dead s.arena below) d in
    let names = each (buried_name dead slots) (told_name d n slots) (told_name d n slots)
    (λ x i. record { bound = bound x.id i; calls = capped_calls n x.calls }) s.names in
    λ i. record (tale n s) { names = names i }

-- ---- the whole

-- the tale is the same after each change that the form by names takes away
module _ (n : ℕ) where
  pub tale_later : (d : By) (s : State) → tale n (shift d s) ≡ tale n s
  tale_later d s = tale_earliest n (shift d s) ∙ ap (tale_now n) (earliest_same d s) ∙ sym (tale_earliest n s)

  pub tale_more : (k : Frees) (s : State) → tale n (more k s) ≡ tale n s
  tale_more k s = search (tale_other, held_renamed, length_renamed)

  pub tale_arranged : (o : List ℕ) (s : State) → Fits o s.arena.slots → tale n (arranged o s) ≡ tale n s
  tale_arranged o s fits = search (tale_other, held_arranged, length_arranged)

  pub tale_orderly : (s : State) → tale n (orderly s) ≡ tale n s
  tale_orderly s = search map_ordered
