-- What the memory of a loop shows, from how it lies there.
use Rattle.uv_memory.specs.MemoryParts.{MemoryParts}
use Rattle.uv_memory.specs.declared.memory.Memory.TheInside.{Inside}

abbrev pub kept : {P : Type 0} → Inside P → MemoryParts P
kept m = record {
  place = m.place;
  names = m.names.items;
  slots = m.slots;
  handles = m.handles;
  requests = m.requests;
  heap = m.heap;
  times = m.times;
  clock = m.clock;
  stop_flag = m.stop_flag;
  idled = m.idled;
  step_record = m.step_record;
}
