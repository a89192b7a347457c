-- Which series belongs to a counted construction of the code.
use Rattle.rounded_map.specs.declared.counted_derivative.Counted.{Counted}
use Rattle.rounded_map.specs.declared.counted_derivative.Counted.TheVariants.{Sequence, Set, Cycle}
use Rattle.series_bounds.specs.Series.{Kind}

abbrev pub series_of_counted : Counted → Kind
series_of_counted Sequence = Kind.Seq
series_of_counted Set = Kind.Set
series_of_counted Cycle = Kind.Cyc
