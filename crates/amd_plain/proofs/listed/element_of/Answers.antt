-- the goals of listed::element_of.
use Rattle.amd_plain.proofs.listed.element_of.Goals as goal

pub root_of-root-requires-clause-led : goal.root_of-root-requires-clause-led
root_of-root-requires-clause-led g c = c.requires.led

pub root_of-root-requires-clause-within : goal.root_of-root-requires-clause-within
root_of-root-requires-clause-within g c = c.requires.within

pub shortcut-requires-clause-led : goal.shortcut-requires-clause-led
shortcut-requires-clause-led g c = c.requires.led

pub shortcut-requires-clause-within : goal.shortcut-requires-clause-within
shortcut-requires-clause-within g c = (c.requires.within, c.root_of-root.ensures.within)

pub shortcut-requires-clause-end : goal.shortcut-requires-clause-end
shortcut-requires-clause-end g c = c.root_of-root.ensures.end

pub shortcut-requires-clause-home : goal.shortcut-requires-clause-home
shortcut-requires-clause-home g c = c.root_of-root.ensures.home

pub returns-clause-within : goal.returns-clause-within
returns-clause-within g c = c.root_of-root.ensures.within

pub returns-clause-home : goal.returns-clause-home
returns-clause-home g c = c.root_of-root.ensures.home

pub returns-clause-size : goal.returns-clause-size
returns-clause-size g c = c.shortcut.ensures.size

pub returns-clause-led : goal.returns-clause-led
returns-clause-led g c = c.shortcut.ensures.led

pub returns-clause-alone : goal.returns-clause-alone
returns-clause-alone g c = c.shortcut.ensures.alone
