-- The calls that a tape's records ask for.
use Rattle.std.specs.Float.{binary32}
use Rattle.std.specs.Prelude.{Some, None, Option, from_bits}
use Rattle.model.specs.declared.calls.Call.{Call}
use Rattle.model.specs.declared.calls.Call.TheVariants as C
use Rattle.model.specs.declared.calls.ListCall.{ListCall}
use Rattle.model.specs.declared.calls.ListCall.TheVariants as L
use Rattle.tape.specs.Format.{Entry, nil, number, load, store, create, select, clobber, identical, look, popitem, pdlget, pdlput, begin, step, census, note}

abbrev listed : ListCall → Option Call
listed c = Some (C.List c)

-- Each kind of record asks for the call of its name, with its argument, a number by its pattern; a note asks for none.
abbrev pub call_of : Entry → Option Call
call_of nil = listed L.Nil
call_of (number n) = listed (L.Number (from_bits binary32 n))
call_of (load r) = listed (L.Load r)
call_of (store r) = listed (L.Store r)
call_of create = listed L.Create
call_of (select j) = listed (L.Select j)
call_of (clobber j) = listed (L.Clobber j)
call_of identical = listed L.Identical
call_of look = listed L.Look
call_of popitem = listed L.Popitem
call_of (pdlget d) = listed (L.Pdlget d)
call_of (pdlput d) = listed (L.Pdlput d)
call_of (begin p) = Some (C.Begin p)
call_of step = Some C.Step
call_of census = Some C.Census
call_of (note text) = None
