-- The command `bulk`.
use Rattle.std.specs.Prelude.{ℕ, ◌*◌, ◌++◌, List, [], None, decimal, codes}
use Rattle.bz_model.specs.Fraction.{ratio}
use Rattle.bit_tape.specs.Bits.{seed_bit}
use Rattle.bit_tape.specs.Tape.{TapeSource}
use Rattle.choice_draw.specs.Decision.{level_for}
use Rattle.oracle_memo.specs.Levels.{level_bounds, cost_at}
use Rattle.rounded_map.specs.RoundedMap.{Setting, setting}
use Rattle.size_window.specs.RunByBits.{Limits, Course, Ending, after}
use Rattle.size_window.specs.Trace.{atoms_in}
use Rattle.call_stages.specs.Lines.{feed}
use Rattle.call_stages.specs.Outcomes.{Outcome, Says}
use Rattle.call_stages.specs.Stages.{Judged, Based}
use Rattle.call_stages.specs.declared.status.Status.{Status}
use Rattle.sample_command.specs.Drawn.{TapeMet, sampling, IsCourse, IsDrawn, ending_word}
use Rattle.sample_command.specs.Drawn.{ending_status}
use Rattle.sample_command.specs.UnderWay.{met}
use Rattle.bulk_command.specs.BulkText.{classes_of, bulk_text}
use Rattle.bulk_command.specs.NoFiles.{empty_files, no_faults}

-- Objects of at most 200 atoms are kept, 100 times n of them.
abbrev pub bulk_limits : (n : ℕ) → Limits
bulk_limits n = record { min = 0; max = 200; count = 100 * n; turns = 50000000 }

-- The tape has the bits of the seed n. It is in no file.
abbrev pub bulk_tape : (n : ℕ) → TapeMet
bulk_tape n = met (TapeSource.Seeded n) empty_files no_faults no_faults

-- What a run's line counts: how many objects were kept and attempts thrown away, the atoms of the
-- kept objects, the bits used and the turns made.
abbrev pub run_counts : (kept thrown atoms bits turns : ℕ) → List ℕ
run_counts kept thrown atoms bits turns =
    codes " kept "
    ++ (decimal kept
    ++ (codes " thrown "
    ++ (decimal thrown
    ++ (codes " atoms "
    ++ (decimal atoms
    ++ (codes " bits " ++ (decimal bits ++ (codes " turns " ++ (decimal turns ++ feed)))))))))

-- The line: the number, how many classes its specification has, why the run ended, and what it
-- counts.
abbrev pub bulk_line : (n classes : ℕ) (word : List ℕ) (kept thrown atoms bits turns : ℕ) → List ℕ
bulk_line n classes word kept thrown atoms bits turns =
    (codes "bulk "
    ++ (decimal n ++ (codes " classes " ++ (decimal classes ++ (codes " end " ++ word)))))
    ++ run_counts kept thrown atoms bits turns

-- The line of a course that has come to this end.
abbrev pub course_line : (n : ℕ) → Course → Ending → List ℕ
course_line n c ending =
    bulk_line n (classes_of n) (ending_word ending) c.state.kept c.state.thrown (atoms_in c.entries)
    c.state.attempt.used c.state.turns

-- Objects are drawn over the levels of a base with the bits of the seed n, and let go. The run
-- comes to its end: its line is the text, and its end gives the status. Or memory runs out, and
-- nothing is written. A level is raised only for the bits that one number of a choice node was
-- given.
pub data BulkDrawn (n : ℕ) (t : Setting) (base : List ℕ) (status : Status) (text : List ℕ)
    (ticks : ℕ) : Type 0 where
  ended : (course : Course) (most : ℕ) (ending : Ending)
      → IsDrawn t.spec (ratio t.num t.den) t.bits (level_bounds t base) (bulk_limits n)
      (bulk_tape n) course most ending
      → Says (ending_status ending) (course_line n course ending) (cost_at (level_for most)) status
      text ticks → BulkDrawn n t base status text ticks
  so_far : (course : Course) (most : ℕ)
      → IsCourse t.spec (ratio t.num t.den) t.bits (level_bounds t base) (bulk_limits n)
      (bulk_tape n) course most
      → Says Status.OutOfMemory [] (cost_at (level_for most)) status text ticks
      → BulkDrawn n t base status text ticks
  no_memory : Says Status.OutOfMemory [] 0 status text ticks → BulkDrawn n t base status text ticks

-- The course of so many turns over the levels of a base and the bits of the seed n.
abbrev pub bulk_course : (n : ℕ) → Setting → (base : List ℕ) → (turns : ℕ) → Course
bulk_course n t base turns =
    after (sampling t.spec t.bits (level_bounds t base) (bulk_limits n) (seed_bit n)) (λ k. None)
    turns

-- `bulk N`: the specification of n is judged, a base is searched at 3/16, and objects are drawn. No
-- file stands in it.
abbrev pub CarriesBulk : (n F : ℕ) → Outcome
CarriesBulk n F =
    Judged (λ s. Based (setting s 3 16 F) (BulkDrawn n (setting s 3 16 F))) (bulk_text n)
