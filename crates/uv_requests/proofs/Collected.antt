-- The done section begins, and the front of those yet to be called back is taken off its list, and its slot is freed.
use Rattle.uv_requests.proofs.Names.{◌≡◌, ◌≢◌, ◌-◌, false, List, [], ◌∷◌, ◌++◌, map, length, Option, Some, None, option_and_then, sym, ap, ◌∙◌, subst, inr, arith, append-nil, length-map, Id, ListName, Waiting, Ended, EndedYet, ChainPlace, RemoveUndo, SpliceUndo, Image, members, held_slots, plain_slots, unlink_undone, CanUndoUnlink, IsFirst, IsUnlinked, IsRemoved, IsSpliced, past_end, Request, Done, Running, working, request_in, done_in, pool_of, IsWork, with_count, collect_undone, IsBegun, IsCollected}
use Rattle.uv_records.specs.Slots as plain
pub use Rattle.uv_arena.proofs.Contents.{freed_slot}
use Rattle.uv_requests.proofs.Beside.{beside, Leaves, pool_now, work_now, ends_stay}
use Rattle.uv_requests.proofs.Holding.{listed_id, front_held}
use Rattle.uv_requests.proofs.Rules.{collect_rule, collect_size}

-- the done section begins: it is as if a slot past the end were changed
pub begin_done : {X : Type 0} {read : X → Option Request} {i j : Image X} {r : Running} {u : SpliceUndo} → IsWork read (working i r)
    → members i EndedYet ≡ [] → IsSpliced i j Ended EndedYet u → IsBegun read (working i r) (working j r) u
begin_done {read = read} {i = i} {j = j} {r = r} {u = u} w empty sp = record {
  pool = same.0;
  yet = sp.moved;
  done = sp.rest (λ e. cc);
  others = sp.others;
  slots = sp.slots;
  kept = sp.kept;
  work = same.1;
  undone = ap (λ z. working z r) sp.undone;
  can_undo = record { spliced = sp.can_undo; work = subst (IsWork read) (ap (λ z. working z r) (sym sp.undone)) w };
} where
  none : (e : Id) → e.slot ≡ length i.memory.row.items → request_in read i e ≡ None
  none e s = ap (option_and_then read) (past_end (held_slots i.memory) e (s ∙ sym (length-map i.memory.row.items (λ c. c.slot))))

  same : (pool_of read (working j r) ≡ pool_of read (working i r)) × IsWork read (working j r)
  same = beside read i j (record { slot = length i.memory.row.items; generation = 0 }) r w (λ e n. sp.slots.contents e) (λ e n. sp.kept e) none
      (λ e s. ap (option_and_then read) (sp.slots.contents e) ∙ none e s) (sp.others Waiting (λ e. cc) (λ e. cc))
      ((λ l. sp.moved l ++ sp.rest (λ e. cc) l) ∙ append-nil (members i Ended) ∙ ap (λ ys. ys ++ members i Ended) (sym empty))

-- a request is collected: it is off its list, and its slot is freed
pub collect_done : {X : Type 0} {read : X → Option Request} {make : Request → X} {i a j : Image X} {d : Id} {from : Request} {t : ChainPlace}
    {u : RemoveUndo} {r : Running} → IsWork read (working i r) → request_in read i d ≡ Some from → IsFirst i EndedYet d → IsUnlinked i a d t
    → IsRemoved a j d (make from) u
    → IsCollected read make (working i r) (working j (with_count (r.count - 1) r)) d from (record { unlinked = t; removed = u; count = r.count })
collect_done {X = X} {read = read} {make = make} {i = i} {a = a} {j = j} {d = d} {from = from} {t = t} {u = u} {r = r} w there f un rem = record {
  rule = collect_rule (pool_of read (working i r)) d (done_in read i d.slot) rest (listed_id i d f.listed.held) was_done
      ∙ ap Some (sym (pool_now w left));
  first = f;
  was = there;
  plain = rem.plain ∙ (λ l. plain.freed ((ap (λ (z : Image X). z.last) un.undone) l) d (un.slots.plain l));
  yet = rem.lists EndedYet ∙ un.lists EndedYet ∙ f.after;
  others = others;
  contents = left.same;
  kept = left.kept;
  work = work_now w left
      (grind arith);
  undone = back;
  can_undo = record {
    removed = rem.can_undo;
    unlinked = subst (λ z. CanUndoUnlink z t) (sym rem.undone) un.can_undo;
    work = subst (IsWork read) (sym back) w;
  };
} where
  rest : List Done
  rest = map (done_in read i) (f.rest ++ members i Ended)

  others : (l : ListName) → l ≢ EndedYet → members j l ≡ members i l
  others l n = rem.lists l ∙ un.lists l ∙ f.others l n

  gone : (e : Id) → e.slot ≡ d.slot → request_in read j e ≡ None
  gone e s = ap (λ (q : plain.Slots X). option_and_then read (plain.held q.slots e)) rem.plain
      ∙ ap (option_and_then read) (freed_slot (plain_slots a) d e (make from) rem.was s a.last)

  left : Leaves read i j r (with_count (r.count - 1) r) d 0 (members i Waiting) (f.rest ++ members i Ended) false false (done_in read j d.slot)
  left = record {
    same = λ e n. rem.contents e n ∙ un.slots.contents e;
    kept = λ e n. rem.kept e n ∙ un.kept e n;
    wait_is = f.others Waiting (λ e. cc);
    ends_is = ends_stay i d f.after (f.others Ended (λ e. cc));
    waiting = others Waiting (λ e. cc);
    ended = λ l. (rem.lists EndedYet ∙ un.lists EndedYet ∙ f.after) l ++ others Ended (λ e. cc) l;
    waits = λ e. cc;
    is_done = λ e. cc;
    listed = λ e s h on. let none = gone e s in cc (h.is, none);
    told = λ e x s h. let none = gone e s in cc (h, none);
    runs = λ c e g. inr (grind arith);
  }

  was_done : (pool_of read (working i r)).done ≡ done_in read i d.slot ∷ rest
  was_done = ap (λ ys. map (done_in read i) (ys ++ members i Ended)) f.is

  back : collect_undone make (record { unlinked = t; removed = u; count = r.count }) from (working j (with_count (r.count - 1) r)) ≡ working i r
  back = ap (λ z. working (unlink_undone t z) r) rem.undone ∙ ap (λ z. working z r) un.undone
