-- What the code's statements say.
use Rattle.uv_script.specs.declared.statement.Statement as code
use Rattle.uv_script.specs.declared.statement.Statement.TheVariants as variant
use Rattle.uv_script.specs.Grammar.{Statement, Declares, InMain, InCallback, Sizes, HasWorkers, Orders, HasIo, FromHeap, InThread}

abbrev pub said : code.Statement → Statement
said (variant.Declares name) = Declares name.now
said (variant.InMain op) = InMain op
said (variant.InCallback kind v line) = InCallback kind v line
said (variant.Sizes size) = Sizes size
said (variant.HasWorkers n) = HasWorkers n
said (variant.Orders o) = Orders o
said variant.HasIo = HasIo
said variant.FromHeap = FromHeap
said (variant.InThread line) = InThread line
