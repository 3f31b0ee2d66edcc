-- What a request asks for.
use Rattle.netlist.specs.Netlist.{Netlist}
use Rattle.assembly.specs.Meaning.{Meaning}
use Rattle.calls.specs.Calls.{entered}
use Rattle.agreement.specs.declared.requests.Request.{Request}

-- the netlist with what the request's calls add to it
abbrev pub requested : {G A : Type 0} → (A → Meaning) → Netlist → Request G A → Netlist
requested meaning b r = entered meaning b r.calls.now
