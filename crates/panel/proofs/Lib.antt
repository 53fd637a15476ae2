mod ByTable
