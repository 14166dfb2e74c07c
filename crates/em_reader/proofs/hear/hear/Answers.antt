use Rattle.em_view.proofs.Doing.{finish_s}
use Rattle.em_reader.proofs.hear.hear.Goals as goal

pub returns-in-If : goal.returns-in-If
returns-in-If g c = rw (c.in-If.is, c.no_texts.ensures) finish_s

pub returns-in-ElseIf : goal.returns-in-ElseIf
returns-in-ElseIf g c = rw (c.in-ElseIf.is, c.no_texts-in-ElseIf.ensures) finish_s

pub returns-in-Blank : goal.returns-in-Blank
returns-in-Blank g c = rw (c.in-Blank.is, c.no_texts-in-Blank.ensures) finish_s

pub returns-in-Else : goal.returns-in-Else
returns-in-Else g c = rw (c.in-Else.is, c.no_texts-in-Else.ensures) finish_s

pub returns-in-Endif : goal.returns-in-Endif
returns-in-Endif g c = rw (c.in-Endif.is, c.no_texts-in-Endif.ensures) finish_s

pub returns-in-Extraneous : goal.returns-in-Extraneous
returns-in-Extraneous g c = rw (c.in-Extraneous.is, c.no_texts-in-Extraneous.ensures) finish_s

pub returns-in-Define : goal.returns-in-Define
returns-in-Define g c = rw (c.in-Define.is, c.no_texts-in-Define.ensures) finish_s

pub returns-in-Stray : goal.returns-in-Stray
returns-in-Stray g c = rw (c.in-Stray.is, c.no_texts-in-Stray.ensures) finish_s

pub returns-in-Unsupported : goal.returns-in-Unsupported
returns-in-Unsupported g c = rw (c.in-Unsupported.is, c.no_texts-in-Unsupported.ensures) finish_s
