use Rattle.tables.proofs.Searching.{Searched}
use Rattle.tables.proofs.code.TableCode.nearest_value.Given as goal

abbrev pub invariant-loop-v : goal.invariant-loop-v
invariant-loop-v l = Searched l.fn.self l.chips l.v-iterator.iter.size l.v-iterator.count l.v-iterator.iter.rest.now (l.value, l.tied) l.least
