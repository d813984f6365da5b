-- What a program that reads a session in pieces may have done: it starts, and takes a piece again and again, of any
-- size. The contracts of start, read and finish are these steps, so that `shown`, what it has printed, and its memory
-- are those of the program.
use Rattle.std.specs.Prelude.{ℕ, ◌≡◌, List, [], ◌++◌, length}
use Rattle.session_byte.specs.Memory.{memory_size}
use Rattle.session_progress.specs.Progress.{begun}
use Rattle.session_progress.specs.declared.Progress.{Progress}
use Rattle.session.specs.Turn.{turned}

pub data Reading : (text : List ℕ) → Progress → (memory shown : List ℕ) → Type 0 where
  begins : {m : List ℕ} → length m ≡ memory_size → Reading [] begun m []
  takes : {t m o : List ℕ} {p : Progress} → Reading t p m o → (s : List ℕ)
      → Reading (t ++ s) (turned p s m).progress (turned p s m).memory (o ++ (turned p s m).text)
