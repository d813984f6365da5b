-- The record of a node in bytes: its head, the table of tags heard, and four views of all entries. The head is the
-- numbers and the wait, twelve words and the report of an update that reads. Every run of bytes of this length is some
-- record; only the codes of the wait and of its kind can be wrong.
use Rattle.std.specs.Prelude.{ℕ, ◌+◌, ◌*◌, Bool, true, List, [], ◌∷◌, ◌++◌, eqb, leb}
use Rattle.octets.specs.Test.{pick, both}
use Rattle.octets.specs.Bytes.{part}
use Rattle.octets.specs.Word.{word_size, word, words, word_bytes}
use Rattle.view.specs.Size.{nodes, report_size, view_size}
use Rattle.view.specs.Report.{no_report, report_bytes, report_of}
use Rattle.view.specs.View.{view_bytes, view_of}
use Rattle.view.specs.declared.Report.{Report}
use Rattle.view.specs.declared.View.{View}
use Rattle.table.specs.Table.{cells}
use Rattle.record.specs.declared.Node.{Node}
use Rattle.record.specs.declared.Kind.{Kind}
use Rattle.record.specs.declared.Kind.TheVariants.{Update as Updating, Scan as Scanning}
use Rattle.record.specs.declared.Operation.{Operation}
use Rattle.record.specs.declared.Operation.TheVariants.{Update, Scan}
use Rattle.record.specs.declared.Wait.{Wait}
use Rattle.record.specs.declared.Wait.TheVariants.{Idle, Reading, Writing, Comparing, Borrowing}
use Rattle.region.specs.declared.head.Head.{Head}

-- Where its parts stand: the numbers, the words of the wait and its report, and the table of tags heard.
abbrev pub n_place : ℕ
n_place = 0

abbrev pub f_place : ℕ
f_place = n_place + word_size

abbrev pub own_place : ℕ
own_place = f_place + word_size

abbrev pub maxtag_place : ℕ
maxtag_place = own_place + word_size

abbrev pub request_place : ℕ
request_place = maxtag_place + word_size

abbrev pub kept_place : ℕ
kept_place = request_place + word_size

abbrev pub code_place : ℕ
code_place = kept_place + word_size

abbrev pub kind_place : ℕ
kind_place = code_place + word_size

abbrev pub round_place : ℕ
round_place = kind_place + word_size

abbrev pub tag_place : ℕ
tag_place = round_place + word_size

abbrev pub answered_place : ℕ
answered_place = tag_place + word_size

abbrev pub largest_place : ℕ
largest_place = answered_place + word_size

abbrev pub report_place : ℕ
report_place = largest_place + word_size

abbrev pub heard_place : ℕ
heard_place = report_place + report_size

abbrev pub heard_size : ℕ
heard_size = word_size * cells

-- The views by number: of the last reports, of those held for maxtag and for the open round, and the kept one; how many
-- they are, and where view i stands.
abbrev pub last_in : ℕ
last_in = 0

abbrev pub atmax_in : ℕ
atmax_in = 1

abbrev pub atround_in : ℕ
atround_in = 2

abbrev pub kept_in : ℕ
kept_in = 3

abbrev pub views : ℕ
views = 4

abbrev pub view_place : ℕ → ℕ
view_place i = heard_place + heard_size + view_size nodes * i

abbrev pub record_size : ℕ
record_size = view_place views

-- The codes of the two kinds of operation. A larger number is read as an update, but no usable record has one.
abbrev pub kind_code : Kind → ℕ
kind_code Updating = 1
kind_code Scanning = 0

abbrev pub kind_of : ℕ → Kind
kind_of k = pick (eqb k 0) Scanning Updating

abbrev pub operation_of : ℕ → Report → Operation
operation_of k p = pick (eqb k 0) Scan (Update p)

-- The words of a wait: its code, the kind of operation, the round, its tag, the senders counted, the largest answer.
abbrev pub wait_words : Wait → List ℕ
wait_words Idle = 0 ∷ 0 ∷ 0 ∷ 0 ∷ 0 ∷ 0 ∷ []
wait_words (Reading (Update p) a m) = 1 ∷ 1 ∷ 0 ∷ 0 ∷ a ∷ m ∷ []
wait_words (Reading Scan a m) = 1 ∷ 0 ∷ 0 ∷ 0 ∷ a ∷ m ∷ []
wait_words (Writing k i r a) = 2 ∷ kind_code k ∷ i ∷ r ∷ a ∷ 0 ∷ []
wait_words (Comparing k i r) = 3 ∷ kind_code k ∷ i ∷ r ∷ 0 ∷ 0 ∷ []
wait_words (Borrowing k r) = 4 ∷ kind_code k ∷ 0 ∷ r ∷ 0 ∷ 0 ∷ []

abbrev pub wait_report : Wait → Report
wait_report Idle = no_report
wait_report (Reading (Update p) a m) = p
wait_report (Reading Scan a m) = no_report
wait_report (Writing k i r a) = no_report
wait_report (Comparing k i r) = no_report
wait_report (Borrowing k r) = no_report

-- The wait that these words and this report are.
abbrev pub wait_of : (code kind round tag answered largest : ℕ) → Report → Wait
wait_of code kind i r a m p =
    pick (eqb code 1) (Reading (operation_of kind p) a m)
    (pick (eqb code 2) (Writing (kind_of kind) i r a)
    (pick (eqb code 3) (Comparing (kind_of kind) i r)
    (pick (eqb code 4) (Borrowing (kind_of kind) r)
    Idle)))

abbrev pub wait_bytes : Wait → List ℕ
wait_bytes w = word_bytes (wait_words w) ++ report_bytes (wait_report w)

abbrev pub wait_in : List ℕ → Wait
wait_in b =
    wait_of (word b code_place) (word b kind_place) (word b round_place) (word b tag_place) (word b answered_place)
    (word b largest_place) (report_of (part b report_place report_size))

-- The head that bytes begin with, the head of a record by value, the other words of a head, and its bytes.
abbrev pub head_of : List ℕ → Head
head_of b =
    record {
      n = word b n_place;
      f = word b f_place;
      own = word b own_place;
      maxtag = word b maxtag_place;
      request = word b request_place;
      kept = word b kept_place;
      wait = wait_in b;
    }

abbrev pub head_in : Node → Head
head_in c =
    record {
      n = c.n;
      f = c.f;
      own = c.own;
      maxtag = c.maxtag;
      request = c.request;
      kept = c.kept;
      wait = c.wait;
    }

abbrev pub numbers : Head → List ℕ
numbers h = h.n ∷ h.f ∷ h.own ∷ h.maxtag ∷ h.request ∷ h.kept ∷ []

abbrev pub head_bytes : Head → List ℕ
head_bytes h = word_bytes (numbers h) ++ wait_bytes h.wait

-- A head with another field.
abbrev pub with_maxtag : Head → ℕ → Head
with_maxtag h t = record h { maxtag = t }

abbrev pub with_request : Head → ℕ → Head
with_request h q = record h { request = q }

abbrev pub with_kept : Head → ℕ → Head
with_kept h t = record h { kept = t }

abbrev pub with_wait : Head → Wait → Head
with_wait h w = record h { wait = w }

-- The bytes of the views, each of all entries; of a record; and view i that bytes are.
abbrev pub views_bytes : Node → List ℕ
views_bytes c =
    view_bytes nodes c.last ++ view_bytes nodes c.atmax ++ view_bytes nodes c.atround
    ++ view_bytes nodes c.keptview

unfoldable pub record_bytes : Node → List ℕ
record_bytes c = head_bytes (head_in c) ++ word_bytes c.heard ++ views_bytes c

abbrev pub view_in : List ℕ → ℕ → View
view_in b i = view_of nodes (part b (view_place i) (view_size nodes))

-- The record that bytes are.
unfoldable pub record_of : List ℕ → Node
record_of b =
    record {
      n = word b n_place;
      f = word b f_place;
      own = word b own_place;
      maxtag = word b maxtag_place;
      request = word b request_place;
      kept = word b kept_place;
      wait = wait_in b;
      heard = words cells b heard_place;
      last = view_in b last_in;
      atmax = view_in b atmax_in;
      atround = view_in b atround_in;
      keptview = view_in b kept_in;
    }

-- The code of the wait is one of the five, and the kind of operation is one of the two; an idle wait has no kind.
abbrev pub codes_known : List ℕ → Bool
codes_known b = pick (eqb (word b code_place) 0) true (both (leb (word b code_place) 4) (leb (word b kind_place) 1))
