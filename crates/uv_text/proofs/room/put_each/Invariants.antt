use Rattle.uv_text.proofs.Names.{◌≡◌, ◌++◌, take, vec_len, vec_capacity, ◌+◌}
use Rattle.uv_text.proofs.room.put_each.Given as goal

-- the letters so far stand behind the text
abbrev pub invariant-loop-letter : goal.invariant-loop-letter
invariant-loop-letter l = record {
  items : l.text.items ≡ l.initial.text.items ++ take l.letter-index l.letters;
  len : vec_len l.text ≡ vec_len l.initial.text + l.letter-index;
  room : vec_capacity l.text ≡ vec_capacity l.initial.text;
}
